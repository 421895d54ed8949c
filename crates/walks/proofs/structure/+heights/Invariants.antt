-- The measures of the walk that measures heights: a child's number is below its parent's, and the measures of the children, the fields, one field and one
-- child lie between the two. Assumes nothing.
use Prim.Native.Nat.{◌+◌, ◌*◌}
use Rattle.walks.proofs.structure.+heights.Given as goal

abbrev pub decreases-height : goal.decreases-height
decreases-height l = 5 * l.i.0 + 4

abbrev pub decreases-height_child : goal.decreases-height_child
decreases-height_child l = 5 * l.i.0

abbrev pub decreases-height_children : goal.decreases-height_children
decreases-height_children l = 5 * l.i.0 + 3

abbrev pub decreases-height_field : goal.decreases-height_field
decreases-height_field l = 5 * l.i.0 + 1

abbrev pub decreases-height_fields : goal.decreases-height_fields
decreases-height_fields l = 5 * l.i.0 + 2
