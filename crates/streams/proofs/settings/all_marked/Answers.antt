-- `streams::settings::all_marked` meets its contract: it searches. Assumes nothing.
use mathlib.Core.Path.{ap, ◌∙◌}
use borrow.Author.Rules.{rules}
use Rattle.script.specs.Refusals.{is_none}
use Rattle.streams.specs.Input.{setting_marked}
use Rattle.streams.proofs.Splitting.{none_found}
use Rattle.streams.proofs.settings.all_marked.Goals as goal

pub returns : goal.returns
unfolding setting_marked
returns c =
    none_found _ c.is_none.ensures ∙ ap is_none (c.first_failing.ensures (setting_marked c.args.s.now) (λ j b l q. search rules))
