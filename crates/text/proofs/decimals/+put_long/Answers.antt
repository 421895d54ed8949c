-- `text::decimals::put_long` meets its contract: the digits of the tenth stand, and the last digit behind them. Assumes nothing.
use native.Mathlib.Omega.{arith}
use Rattle.text.proofs.Rounds.{put_short, long_length, long_rounds, put_longer}
use Rattle.text.proofs.decimals.+put_long.Goals as goal

pub returns-then-x-lt-LIMIT_32 : goal.returns-then-x-lt-LIMIT_32
returns-then-x-lt-LIMIT_32 t c = put_short c.put_digits.ensures

pub overflow_add-result : goal.overflow_add-result
overflow_add-result t c =
    omega (arith, long_length c.put_long-front.ensures (omega (arith, c.ranges.x)))

pub overflow_add-result-2 : goal.overflow_add-result-2
overflow_add-result-2 t c =
    omega (arith, long_rounds c.put_long-front.ensures (omega (arith, c.ranges.x)))

pub returns : goal.returns
returns t c =
    put_longer c.put_long-front.ensures (omega (arith, c.if-x-lt-LIMIT_32.false)) c.put.ensures
