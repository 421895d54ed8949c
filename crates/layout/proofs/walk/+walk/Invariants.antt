-- The walk ends: five times the node's number, and more for each call on the way from a child back to its node. Assumes nothing.
use Prim.Native.Nat.{◌+◌, ◌*◌}
use Rattle.layout.proofs.walk.+walk.Given as goal

abbrev pub decreases-bare : goal.decreases-bare
decreases-bare l = 5 * l.i.0 + 1

abbrev pub decreases-child_at : goal.decreases-child_at
decreases-child_at l = 5 * l.i.0

abbrev pub decreases-group : goal.decreases-group
decreases-group l = 5 * l.i.0 + 2

abbrev pub decreases-node : goal.decreases-node
decreases-node l = 5 * l.i.0 + 4

abbrev pub decreases-operation : goal.decreases-operation
decreases-operation l = 5 * l.i.0 + 3

abbrev pub decreases-spaced_at : goal.decreases-spaced_at
decreases-spaced_at l = 5 * l.i.0 + 1

abbrev pub decreases-worded : goal.decreases-worded
decreases-worded l = 5 * l.i.0 + 3
