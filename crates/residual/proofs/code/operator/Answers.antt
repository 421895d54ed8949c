-- `residual::code::operator` meets its contract: an operator's number stands for it, and any other counts as 0. Assumes nothing.
use Rattle.machine.proofs.Nodes.{operator_number_lem}
use Rattle.residual.proofs.CellLaws.{past_operators}
use Rattle.residual.proofs.code.operator.Goals as goal

pub returns-then-f-lt6 : goal.returns-then-f-lt6
returns-then-f-lt6 c = operator_number_lem _ c.if-f-lt6.true

pub returns-else-f-lt6 : goal.returns-else-f-lt6
returns-else-f-lt6 c = past_operators _ c.if-f-lt6.false
