-- The lines that are printed, put together from their parts. Assumes nothing.
use Prim.Native.Nat.{ℕ, ◌≤◌, ◌<◌}
use mathlib.Core.Path.{◌≡◌}
use mathlib.Core.Bool.{Bool, true, false}
use mathlib.Core.List.{List}
use native.Mathlib.Omega.{arith}
use lib.Dec.{ltb}
use lib.ListN.{length, length-append}
use borrow.Author.Tests.{lt-ltb, le-ltb}
use Rattle.lambdamix.specs.Limits.{max_bytes}
use Rattle.lambdamix.specs.Text.{ascii, digits}
use Rattle.text.specs.Places.{Placed}
use Rattle.text.proofs.Digits.{digits_within}
use Rattle.text.proofs.Writing.{join}
use Rattle.streams.specs.Lines.{pair_text, unmade_text, counts_text}
use Rattle.streams.specs.Printed.{lines_bytes, Prints, CountsPlaced}

pub pair_placed :
    (k n : ℕ) {v w x x₁ x₂ x₃ x₄ y : List ℕ} {a b c d r : ℕ} →
    Placed v 0 x x₁ a → Placed (digits k) a x₁ x₂ b → Placed w b x₂ x₃ c → Placed (digits n) c x₃ x₄ d →
    Placed (ascii "\n") d x₄ y r → Placed (pair_text v k w n) 0 x y r
unfolding pair_text
pair_placed k n one two three four five = join (join (join (join one two) three) four) five

-- ---- number and place

unmade_short : (b : Bool) (n p : ℕ) → n < 256 → p < 18446744073709551616 → length (unmade_text b n p) ≤ max_bytes
unfolding max_bytes unmade_text pair_text ascii
unmade_short true n p h k =
    simp length-append (omega (arith, digits_within 19 n (omega arith), digits_within 19 p (omega arith)))
unmade_short false n p h k =
    simp length-append (omega (arith, digits_within 19 n (omega arith), digits_within 19 p (omega arith)))

pub prints_unmade :
    (b : Bool) (n p : ℕ) → n < 256 → p < 18446744073709551616 → {x y : List ℕ} {r : ℕ} →
    Placed (unmade_text b n p) 0 x y r → Prints (unmade_text b n p) x y r
prints_unmade b n p h k l = record { short = unmade_short b n p h k; placed = l }

-- the words go by the number
pub unmade_refused : (n p : ℕ) → n < 20 → unmade_text (ltb n 20) n p ≡ pair_text (ascii "refused ") n (ascii " ") p
unfolding unmade_text
unmade_refused n p h = rw (lt-ltb n 20 h)

pub unmade_stopped : (n p : ℕ) → 20 ≤ n → unmade_text (ltb n 20) n p ≡ pair_text (ascii "accepted\nstopped ") n (ascii " ") p
unfolding unmade_text
unmade_stopped n p h = rw (le-ltb n 20 h)

pub unmade_within : (n p : ℕ) → n < 256 → p < 18446744073709551616 → length (unmade_text (ltb n 20) n p) ≤ max_bytes
unmade_within n p h k = unmade_short (ltb n 20) n p h k

-- ---- steps and nodes

counts_short : (k n : ℕ) → k < 65536 → n < 65536 → length (counts_text k n) ≤ lines_bytes
unfolding lines_bytes counts_text pair_text ascii
counts_short k n h l =
    simp length-append (omega (arith, digits_within 4 k (omega arith), digits_within 4 n (omega arith)))

pub counts_placed :
    (k n : ℕ) → k < 65536 → n < 65536 → {v w x y : List ℕ} {r : ℕ} → v ≡ ascii "accepted\nsteps " → w ≡ ascii "\nnodes " →
    Placed (pair_text v k w n) 0 x y r → CountsPlaced k n x y r
unfolding counts_text
counts_placed k n h l e f p = record { short = counts_short k n h l; placed = rw (e, f) at p }
