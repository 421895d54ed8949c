-- `text::decimals::put_prefixed` meets its contract: the digits stand behind the letter. Assumes nothing.
use native.Mathlib.Omega.{arith}
use Rattle.text.proofs.Digits.{digits_within}
use Rattle.text.proofs.Writing.{placed, put_behind}
use Rattle.text.proofs.decimals.put_prefixed.Goals as goal

pub overflow_add-result : goal.overflow_add-result
overflow_add-result c = omega (arith, c.put_digits-behind.ensures.put.counted, digits_within 9 c.args.x (omega (arith, c.ranges.x)))

pub returns : goal.returns
returns c =
    record {
      put = put_behind c.args.letter (omega (arith, digits_within 9 c.args.x (omega (arith, c.ranges.x)))) (omega (arith, c.well_formed))
          c.put.ensures (placed (omega (arith, c.min-from.ensures)) c.put_digits-behind.ensures.put (omega (arith, c.put_digits-behind.ensures.put.counted, digits_within 9 c.args.x (omega (arith, c.ranges.x)))));
      rounds = c.put_digits-behind.ensures.rounds;
    }
