-- `residual::size::charge` meets its contract: past the end stands a constant, else the root's node is counted. Assumes nothing.
use mathlib.Core.Path.{sym}
use borrow.Author.Tests.{ltb-false}
use Rattle.lambdamix.specs.Limits.{max_nodes, max_height}
use Rattle.residual.specs.Cells.{code_at}
use Rattle.residual.proofs.CellLaws.{whole_past, whole_under}
use Rattle.residual.proofs.Charging.{counted}
use Rattle.residual.proofs.size.charge.Goals as goal

pub returns-in_default : goal.returns-in_default
unfolding max_nodes
returns-in_default c =
    let a = c.args in
    counted _ (code_at a.codes.now a.p) (whole_past a.codes.now a.p (ltb-false a.p _ (sym c.in_default.ensures.lookup.0)))

pub returns : goal.returns
unfolding max_nodes max_height
returns c = counted _ _ (whole_under c.charge_pieces.ensures)
