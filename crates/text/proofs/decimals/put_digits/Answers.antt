-- `text::decimals::put_digits` meets its contract: five digits or ten are drawn. Assumes nothing.
use native.Mathlib.Omega.{arith}
use Rattle.text.specs.Decimals.{most_rounds}
use Rattle.text.proofs.Rounds.{five_digits, ten_digits, put_number}
use Rattle.text.proofs.decimals.put_digits.Goals as goal

pub returns-then-x-lt-SHORT : goal.returns-then-x-lt-SHORT
unfolding most_rounds
returns-then-x-lt-SHORT c =
    put_number c.put_drawn.ensures (omega arith) (five_digits c.args.x (omega (arith, c.if-x-lt-SHORT.true)))

pub returns : goal.returns
unfolding most_rounds
returns c =
    put_number c.put_drawn-2.ensures (omega arith) (ten_digits c.args.x (omega (arith, c.ranges.x)))
