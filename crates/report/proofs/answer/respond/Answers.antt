-- `report::answer::respond` meets its contract: the answer has room, or 21. Assumes nothing.
use borrow.Author.Rules.{rules}
use Rattle.streams.specs.Answers.{Answers}
use Rattle.report.specs.Report.{report}
use Rattle.report.specs.Stages.{ran_texts}
use Rattle.report.proofs.answer.respond.Goals as goal

pub returns : goal.returns
unfolding report
returns c =
    c.answered.ensures (report c.args.input.now) (λ x y n l p. let a : Answers ran_texts c.args.input.now x y n = search rules in a.answers l)
