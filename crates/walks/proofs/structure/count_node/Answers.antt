-- `walks::structure::count_node` meets its contract: past the table there are no children. Assumes nothing.
use native.Mathlib.Omega.{arith}
use Rattle.lambdamix.specs.Structure.{occurrences}
use Rattle.walks.proofs.OwnRow.{own_children, no_children}
use Rattle.walks.proofs.UseCounts.{counted_none}
use Rattle.walks.proofs.structure.count_node.Goals as goal

pub returns-in_default : goal.returns-in_default
unfolding occurrences
returns-in_default c = rw (no_children _ c.kind.ensures (omega arith)) (counted_none _)
