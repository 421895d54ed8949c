-- `report::lines::print_unfinished` meets its contract: the words go by the number. Assumes nothing.
use mathlib.Core.Bool.{true, false}
use native.Mathlib.Omega.{arith}
use borrow.Author.Tests.{lt-ltb, le-ltb}
use Rattle.lambdamix.specs.Text.{ascii}
use Rattle.report.proofs.Fitting.{prints_unfinished}
use borrow.Author.Rules.{rules}
use Rattle.report.proofs.lines.print_unfinished.Goals as goal

pub returns-then-f-lt20 : goal.returns-then-f-lt20
unfolding ascii
returns-then-f-lt20 c =
    rw (lt-ltb c.args.f.number 20 (omega (arith, c.if-f-lt20.true)))
    (prints_unfinished true _ _ (omega (arith, c.type_inv)) (omega (arith, c.type_inv)) (search rules) (search rules)
    c.print_pair.ensures)

pub returns : goal.returns
unfolding ascii
returns c =
    rw (le-ltb c.args.f.number 20 (omega (arith, c.if-f-lt20.false)))
    (prints_unfinished false _ _ (omega (arith, c.type_inv)) (omega (arith, c.type_inv)) (search rules) (search rules)
    c.print_pair-2.ensures)
