-- `streams::settings::settings_given` meets its contract: what is decoded is what is given, where the store has the places. Assumes nothing.
use native.Mathlib.Omega.{arith}
use borrow.Author.Rules.{rules}
use Rattle.lambdamix.specs.Limits.{max_inputs}
use Rattle.streams.specs.Input.{setting_at}
use Rattle.streams.specs.Given.{program_settings}
use Rattle.streams.proofs.Splitting.{given_most, given_decoded}
use Rattle.streams.proofs.settings.settings_given.Goals as goal

pub overflow_cast-count : goal.overflow_cast-count
unfolding program_settings max_inputs
overflow_cast-count c = omega (arith, c.given_count-count.ensures, given_most c.args.s.now)

pub fill-requires-clause-enough : goal.fill-requires-clause-enough
unfolding program_settings max_inputs
fill-requires-clause-enough c = omega (arith, c.given_count-count.ensures, given_most c.args.s.now)

pub returns-then-settings-ge-SETTINGS-clause-settings_after : goal.returns-then-settings-ge-SETTINGS-clause-settings_after
unfolding setting_at
returns-then-settings-ge-SETTINGS-clause-settings_after c =
    given_decoded _ _ c.given_count-count.ensures (c.fill.ensures (setting_at c.args.s.now) (λ j v l q. search rules))
