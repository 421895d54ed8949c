-- The count of code goes by the rows of its cells' kinds. The measure is the place, since a piece stands below its cell. Assumes nothing.
use Rattle.std.proofs.Common.{◌+◌, ◌*◌}
use Rattle.residual.proofs.size.+charges.Given as goal

abbrev pub decreases-charge_field : goal.decreases-charge_field
decreases-charge_field l = 4 * l.p + 1

abbrev pub decreases-charge_piece : goal.decreases-charge_piece
decreases-charge_piece l = 4 * l.p + 0

abbrev pub decreases-charge_pieces : goal.decreases-charge_pieces
decreases-charge_pieces l = 4 * l.p + 3

abbrev pub decreases-charge_row : goal.decreases-charge_row
decreases-charge_row l = 4 * l.p + 2
