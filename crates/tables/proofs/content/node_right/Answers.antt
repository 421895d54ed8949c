-- `tables::content::node_right` meets its contract: 0 and 1 by their rows, the rest by their range. Assumes nothing.
use mathlib.Core.Path.{refl, ◌∙◌}
use native.Mathlib.Omega.{arith}
use Rattle.tables.proofs.ContentLaws.{of_kind, of_constant, wrong_kind}
use Rattle.tables.proofs.content.node_right.Goals as goal

pub returns-in-0 : goal.returns-in-0
returns-in-0 c = c.fields_right.ensures ∙ of_constant _ _ _ _ _ _ _ c.step_row.ensures (omega arith) (omega arith) _

pub returns-in-1 : goal.returns-in-1
returns-in-1 c = c.step_right.ensures ∙ of_kind _ _ _ _ _ _ _ c.step_row-in-1.ensures (omega arith) refl c.ranges.value

pub returns-in_default : goal.returns-in_default
returns-in_default c = wrong_kind _ _ _ _ _ _ _ _ c.in_default.if-kind-lt13-own.false
