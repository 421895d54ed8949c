-- `bands::rows::row_right` meets its contract: by the row's three numbers. Assumes nothing.
use Rattle.std.proofs.Common.{◌∙◌}
use mir.Syntax.{w32}
use mir.Facts.{to_z-of_z}
use Rattle.bands.specs.Calls.{columns_in}
use Rattle.bands.proofs.RowTests.{columns_right}
use Rattle.bands.proofs.rows.row_right.Goals as goal

pub returns : goal.returns
returns c =
    columns_right (columns_in c.args.rows.now) _ (to_z-of_z {w = w32} (record { sfits = c.at.type_inv }) ∙ c.at.ensures)
    (to_z-of_z {w = w32} (record { sfits = c.at-2.type_inv }) ∙ c.at-2.ensures)
    (to_z-of_z {w = w32} (record { sfits = c.at-3.type_inv }) ∙ c.at-3.ensures) c.band_right.ensures
