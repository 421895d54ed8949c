-- The measures of the walk of types: a child's number is below its parent's, and the measures of the fields, of one field and of one child lie between the two.
-- Assumes nothing.
use Prim.Native.Nat.{◌+◌, ◌*◌}
use Rattle.annotation.proofs.typing.+types.Given as goal

abbrev pub decreases-child : goal.decreases-child
decreases-child l = 4 * l.i.0

abbrev pub decreases-field : goal.decreases-field
decreases-field l = 4 * l.i.0 + 1

abbrev pub decreases-fields : goal.decreases-fields
decreases-fields l = 4 * l.i.0 + 2

abbrev pub decreases-node : goal.decreases-node
decreases-node l = 4 * l.i.0 + 3
