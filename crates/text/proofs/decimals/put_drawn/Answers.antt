-- `text::decimals::put_drawn` meets its contract. The loop's invariant: the rounds are counted, the digits passed stand, and the fraction of the rest is
-- held. Assumes nothing.
use borrow.Author.Rules.{rules}
use native.Mathlib.Omega.{arith}
use Rattle.text.proofs.Rounds.{none_stands, round_stands, next_length, all_stand}
use Rattle.text.proofs.decimals.put_drawn.Goals as goal

pub loop-round-init : goal.loop-round-init
loop-round-init c = (search rules, search rules, search rules, λ x f. none_stands c.args.rounds f)

pub loop-round-preserved : goal.loop-round-preserved
loop-round-preserved c = (
  omega arith,
  search rules,
  omega (arith, next_length c.put_digit-length.ensures, c.loop-round.invariant.2),
  λ x f. round_stands c.args.rounds c.loop-round.round c.loop-round-test.true (c.loop-round.invariant.3 x f)
      c.put_digit-length.ensures,
)

pub returns : goal.returns
returns c =
    record {
      put = λ x f.
          all_stand c.args.rounds c.loop-round.round c.loop-round-test.false (c.loop-round.invariant.3 x f) c.put.ensures;
      rounds = omega (arith, c.loop-round-test.false, c.loop-round.invariant.1, c.loop-round.auto.round-end);
    }
