-- `tables::content::input_right` meets its contract. Assumes nothing.
use Rattle.script.specs.Refusals.{input_fits}
use Rattle.script.specs.Tables.{row_input}
use Rattle.tables.proofs.content.input_right.Goals as goal

pub returns : goal.returns
unfolding input_fits row_input
returns c = rw (← c.type_at.ensures)
