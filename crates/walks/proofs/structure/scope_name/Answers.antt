-- `walks::structure::scope_name` meets its contract: the definition's tests in turn. Assumes nothing.
use borrow.Author.Tests.{lt-ltb, le-ltb}
use mathlib.Core.Path.{refl, sym, ◌∙◌}
use Rattle.lambdamix.specs.Structure.{unless_bound}
use Rattle.walks.specs.Walks.{unbound_name, input_count_in, same, node}
use Rattle.walks.proofs.structure.scope_name.Goals as goal
use Rattle.walks.proofs.structure.scope_name.Goals.{then-x-limits-via-then-x-limits, then-x-limits-via-else-x-limits+then-is_bound}

pub returns-then-x-limits : goal.returns-then-x-limits
unfolding unbound_name unless_bound input_count_in
returns-then-x-limits c =
    elim c.then-x-limits.branch [
      | then-x-limits-via-then-x-limits w ↦ rw (lt-ltb _ _ w.if-x-limits.true) (same refl)
      | then-x-limits-via-else-x-limits+then-is_bound w ↦ rw (le-ltb _ _ w.if-x-limits.false, sym w.is_bound.ensures ∙ w.if-is_bound.true) (same refl)
    ]

pub returns : goal.returns
unfolding unbound_name unless_bound input_count_in
returns c =
    rw (le-ltb _ _ c.if-x-limits.false, sym c.is_bound.ensures ∙ c.if-is_bound.false) (node c.requires.1 c.min.ensures)
