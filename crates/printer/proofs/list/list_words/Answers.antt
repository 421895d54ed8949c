-- `printer::list::list_words` meets its contract. Assumes nothing.
use native.Mathlib.Omega.{arith}
use Rattle.printer.proofs.Printed.{lists_nothing}
use Rattle.printer.proofs.list.list_words.Goals as goal

pub returns : goal.returns
returns c =
    rw c.at.ensures
    (lists_nothing (omega (arith, c.well_formed)) (omega (arith, c.whole-length.auto.out)) c.whole-length.ensures (omega arith))
