-- `text::decimals::put_drawn` meets its contract. The loop's invariant: the rounds are counted, the digits passed stand, and the fraction of the rest is
-- held. Assumes nothing.
use Prim.Native.Nat.{ℕ, ◌*◌, ◌-◌, ◌≤◌, ◌<◌}
use mathlib.Core.Path.{◌≡◌}
use Rattle.text.specs.Drawing.{one, Fraction}
use Rattle.text.proofs.Rounds.{Standing}
use Rattle.text.proofs.decimals.put_drawn.Given as goal

abbrev pub invariant-loop-round : goal.invariant-loop-round
invariant-loop-round l =
    (l.rest < 10 * one)
    × (l.done ≡ l.round)
    × (l.length ≤ l.round)
    × ((x : ℕ) → Fraction l.fraction l.rounds x → Standing x l.rest (l.rounds - l.round) l.initial.out l.out l.length)
