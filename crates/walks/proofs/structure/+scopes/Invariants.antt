-- The measures of the search for unbound variables: a child's number is below its parent's, and the measures of the fields, of one field and of one child
-- lie between the two. Assumes nothing.
use Prim.Native.Nat.{◌+◌, ◌*◌}
use Rattle.walks.proofs.structure.+scopes.Given as goal

abbrev pub decreases-scope : goal.decreases-scope
decreases-scope l = 4 * l.i.0 + 3

abbrev pub decreases-scope_child : goal.decreases-scope_child
decreases-scope_child l = 4 * l.i.0

abbrev pub decreases-scope_field : goal.decreases-scope_field
decreases-scope_field l = 4 * l.i.0 + 1

abbrev pub decreases-scope_fields : goal.decreases-scope_fields
decreases-scope_fields l = 4 * l.i.0 + 2
