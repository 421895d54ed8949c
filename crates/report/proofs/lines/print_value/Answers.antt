-- `report::lines::print_value` meets its contract: a decimal of 32 bits, or words. Assumes nothing.
use native.Mathlib.Omega.{arith}
use Rattle.lambdamix.specs.Arithmetic.{Fits32}
use Rattle.lambdamix.specs.Text.{ascii}
use Rattle.script.proofs.SignedBits.{read}
use Rattle.report.specs.Report.{outcome_text}
use Rattle.report.proofs.Fitting.{decimal_short}
use Rattle.report.proofs.lines.print_value.Goals as goal

pub returns-in-Number-clause-placed : goal.returns-in-Number-clause-placed
unfolding outcome_text
returns-in-Number-clause-placed c = let f : Fits32 c.in-Number.z = omega arith in rw c.in-Number.is (rw (read f) at c.decimal_at.ensures)

pub returns-in-Number-clause-short : goal.returns-in-Number-clause-short
unfolding outcome_text
returns-in-Number-clause-short c = let f : Fits32 c.in-Number.z = omega arith in rw c.in-Number.is (decimal_short _ f)

pub returns-in-Function-clause-placed : goal.returns-in-Function-clause-placed
unfolding outcome_text ascii
returns-in-Function-clause-placed c = rw c.in-Function.is c.text_at.ensures

pub returns-in-Function-clause-short : goal.returns-in-Function-clause-short
unfolding outcome_text ascii
returns-in-Function-clause-short c = rw c.in-Function.is (omega arith)
