-- `walks::structure::is_among` meets its contract. The invariant: whether the name is among the first d is known. Assumes nothing.
use borrow.Author.Rules.{rules}
use Rattle.lambdamix.specs.Limits.{max_height}
use Rattle.walks.proofs.Scopes.{found_here, found_before}
use Rattle.walks.proofs.structure.is_among.Goals as goal
use Rattle.walks.proofs.structure.is_among.Goals.{then-names-d, else-names-d}

pub offset_bounds-names-d : goal.offset_bounds-names-d
unfolding max_height
offset_bounds-names-d c = search rules

pub bounds-names-d : goal.bounds-names-d
unfolding max_height
bounds-names-d c = search rules

pub loop-d-preserved : goal.loop-d-preserved
loop-d-preserved c =
    elim c.if-names-d.branch [
      | then-names-d w ↦ found_here _ _ _ c.loop-d.invariant w.if-names-d.true w.found-is
      | else-names-d w ↦ found_before _ _ _ c.loop-d.invariant w.if-names-d.false w.found-is
    ]
