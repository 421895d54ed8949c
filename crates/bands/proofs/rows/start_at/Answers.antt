-- `bands::rows::start_at` meets its contract: past the last row stands the number past the highest reading. Assumes nothing.
use Rattle.std.proofs.Common.{◌∙◌}
use mir.Syntax.{w32, w64}
use mir.Facts.{to_z-of_z}
use Rattle.bands.proofs.RowTests.{row_start, past_start}
use Rattle.bands.proofs.rows.start_at.Goals as goal

pub returns-then-k-count : goal.returns-then-k-count
returns-then-k-count c =
    row_start _ c.if-k-count.true c.at.ensures (to_z-of_z {w = w64} (record { sfits = c.from.type_inv }) ∙ c.from.ensures ∙ to_z-of_z {w = w32}
    (record { sfits = c.at.type_inv }))

pub returns-else-k-count : goal.returns-else-k-count
returns-else-k-count c = past_start _ c.if-k-count.false
