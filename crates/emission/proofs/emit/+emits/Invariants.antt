-- The nodes of code are put by the rows of its cells' kinds. The measure is the place, since a piece stands below its cell. Assumes nothing.
use Rattle.std.proofs.Common.{◌+◌, ◌*◌}
use Rattle.emission.proofs.emit.+emits.Given as goal

abbrev pub decreases-emit : goal.decreases-emit
decreases-emit l = 4 * l.p + 3

abbrev pub decreases-emit_field : goal.decreases-emit_field
decreases-emit_field l = 4 * l.p + 1

abbrev pub decreases-emit_piece : goal.decreases-emit_piece
decreases-emit_piece l = 4 * l.p + 0

abbrev pub decreases-emit_row : goal.decreases-emit_row
decreases-emit_row l = 4 * l.p + 2
