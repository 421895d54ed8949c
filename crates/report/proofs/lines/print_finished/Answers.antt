-- `report::lines::print_finished` meets its contract: what was given behind the steps. Assumes nothing.
use native.Mathlib.Omega.{arith}
use Rattle.lambdamix.specs.Text.{ascii}
use Rattle.report.proofs.Fitting.{line_placed, prints_line}
use Rattle.report.proofs.lines.print_finished.Goals as goal

pub returns : goal.returns
unfolding ascii
returns c =
    prints_line _ _ (omega arith) c.print_value-two.ensures.short
    (line_placed c.print_steps-one.ensures c.print_value-two.ensures.placed c.letter_at.ensures)
