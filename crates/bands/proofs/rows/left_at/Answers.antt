-- `bands::rows::left_at` meets its contract: before the first row stands the lowest reading. Assumes nothing.
use Rattle.std.proofs.Common.{refl, ◌∙◌}
use mir.Syntax.{w32, w64}
use mir.Facts.{to_z-of_z}
use Rattle.bands.proofs.RowTests.{first_left, later_left}
use Rattle.bands.proofs.rows.left_at.Goals as goal

pub returns-then-k-lt1 : goal.returns-then-k-lt1
returns-then-k-lt1 c = first_left _ c.if-k-lt1.true

pub returns-else-k-lt1 : goal.returns-else-k-lt1
returns-else-k-lt1 c =
    later_left _ c.if-k-lt1.false refl (to_z-of_z {w = w32} (record { sfits = c.at.type_inv }) ∙ c.at.ensures)
    (to_z-of_z {w = w64} (record { sfits = c.next.type_inv }) ∙ c.next.ensures)
