-- `script::kinds::own_row` meets its contract: each arm reads the row of its own kind. Assumes nothing.
use mathlib.Core.Path.{◌∙◌}
use Rattle.script.proofs.TableLaws.{Other, no_uses_past}
use Rattle.script.proofs.kinds.own_row.Goals as goal

pub returns-in_default : goal.returns-in_default
unfolding Other
returns-in_default c = c.step_row-in_default.ensures ∙ no_uses_past _ c.in_default.in_default-own.rest
