-- `report::lines::print_steps` meets its contract: three parts, one behind the other. Assumes nothing.
use Rattle.lambdamix.specs.Text.{ascii}
use Rattle.report.proofs.Fitting.{steps_placed}
use borrow.Author.Rules.{rules}
use Rattle.report.proofs.lines.print_steps.Goals as goal

pub returns : goal.returns
unfolding ascii
returns c = steps_placed _ (search rules) c.text_at-one.ensures c.digits_at-two.ensures c.letter_at.ensures
