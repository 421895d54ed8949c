-- `streams::settings::given_count` meets its contract: three tests. Assumes nothing.
use mathlib.Core.Path.{refl, sym, ◌∙◌}
use borrow.Author.Rules.{rules}
use borrow.Author.Tests.{lt-ltb, le-ltb, eq-eqb, ne_eqb}
use Rattle.lambdamix.specs.Limits.{max_inputs}
use Rattle.streams.specs.Given.{program_settings, given_by}
use Rattle.streams.proofs.Splitting.{given_by_lem}
use Rattle.streams.proofs.settings.given_count.Goals as goal
use Rattle.streams.proofs.settings.given_count.Goals.{else-count-lt-SETTINGS-via-then-count-lt-SETTINGS+then-s-eq0+else-all_marked, else-count-lt-SETTINGS-via-then-count-lt-SETTINGS+else-s-eq0, else-count-lt-SETTINGS-via-else-count-lt-SETTINGS}

pub all_marked-requires : goal.all_marked-requires
unfolding program_settings max_inputs
all_marked-requires c = search rules

pub returns-then-all_marked : goal.returns-then-all_marked
unfolding given_by program_settings max_inputs
returns-then-all_marked c =
    given_by_lem _ (lt-ltb _ _ c.if-count-lt-SETTINGS.true) (eq-eqb _ _ c.if-s-eq0.true) (sym c.all_marked.ensures ∙ c.if-all_marked.true)

pub returns-else-count-lt-SETTINGS : goal.returns-else-count-lt-SETTINGS
unfolding given_by program_settings max_inputs
returns-else-count-lt-SETTINGS c =
    elim c.else-count-lt-SETTINGS.branch [
      | else-count-lt-SETTINGS-via-then-count-lt-SETTINGS+then-s-eq0+else-all_marked w ↦
          given_by_lem _ (lt-ltb _ _ w.if-count-lt-SETTINGS.true) (eq-eqb _ _ w.if-s-eq0.true) (sym w.all_marked.ensures ∙ w.if-all_marked.false)
      | else-count-lt-SETTINGS-via-then-count-lt-SETTINGS+else-s-eq0 w ↦
          given_by_lem _ (lt-ltb _ _ w.if-count-lt-SETTINGS.true) (ne_eqb _ _ w.if-s-eq0.false) refl
      | else-count-lt-SETTINGS-via-else-count-lt-SETTINGS w ↦ given_by_lem _ (le-ltb _ _ w.if-count-lt-SETTINGS.false) refl refl
    ]
