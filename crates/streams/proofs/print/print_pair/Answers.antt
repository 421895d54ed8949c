-- `streams::print::print_pair` meets its contract: five parts, one behind the other. Assumes nothing.
use Rattle.lambdamix.specs.Text.{ascii}
use Rattle.streams.proofs.Lines.{pair_placed}
use Rattle.streams.proofs.print.print_pair.Goals as goal

pub returns : goal.returns
unfolding ascii
returns c =
    pair_placed _ _ c.text_at-one.ensures c.digits_at-two.ensures c.text_at-three.ensures c.long_at-four.ensures c.letter_at.ensures
