-- `streams::print::print_counts` meets its contract: two numbers behind their words. Assumes nothing.
use borrow.Author.Rules.{rules}
use native.Mathlib.Omega.{arith}
use Rattle.lambdamix.specs.Text.{ascii}
use Rattle.streams.proofs.Lines.{counts_placed}
use Rattle.streams.proofs.print.print_counts.Goals as goal

pub returns : goal.returns
unfolding ascii
returns c =
    counts_placed _ _ (omega (arith, c.ranges.steps)) (omega (arith, c.ranges.nodes)) (search rules) (search rules)
    c.print_pair.ensures
