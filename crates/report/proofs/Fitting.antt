-- The lines that are printed, put together from their parts, and that they fit. Assumes nothing.
use Prim.Native.Nat.{ℕ, suc, ◌≤◌, ◌<◌}
use mathlib.Core.Path.{◌≡◌}
use mathlib.Core.Bool.{Bool, true, false}
use mathlib.Core.List.{List, ◌++◌}
use native.Mathlib.Omega.{arith}
use lib.IntN.{ℤ, pos, negsuc}
use lib.ListN.{length, length-append}
use Rattle.lambdamix.specs.Limits.{max_bytes}
use Rattle.lambdamix.specs.Arithmetic.{Fits32}
use Rattle.lambdamix.specs.Text.{ascii, digits, decimal}
use Rattle.text.specs.Places.{Placed}
use Rattle.text.proofs.Digits.{digits_within}
use Rattle.text.proofs.Writing.{join}
use Rattle.streams.specs.Lines.{pair_text}
use Rattle.streams.specs.Printed.{Prints}
use Rattle.report.specs.Report.{steps_text, unfinished_word, unfinished_text}

pub steps_placed :
    (k : ℕ) {v x x₁ x₂ y : List ℕ} {a b r : ℕ} → v ≡ ascii "steps " → Placed v 0 x x₁ a → Placed (digits k) a x₁ x₂ b → Placed (ascii "\n") b x₂ y r →
    Placed (steps_text k) 0 x y r
unfolding steps_text
steps_placed k e one two three = join (join (rw e at one) two) three

-- a text on its own line behind the steps
pub line_placed :
    {s v x x₁ x₂ y : List ℕ} {a b r : ℕ} → Placed s 0 x x₁ a → Placed v a x₁ x₂ b → Placed (ascii "\n") b x₂ y r →
    Placed (s ++ v ++ ascii "\n") 0 x y r
line_placed one two three = join (join one two) three

-- ---- that they fit

pub decimal_short : (z : ℤ) → Fits32 z → length (decimal z) ≤ 21
unfolding decimal
decimal_short (pos n) h = omega (arith, digits_within 19 n (omega arith))
decimal_short (negsuc n) h = omega (arith, digits_within 19 (suc n) (omega arith))

pub prints_line :
    (k : ℕ) (v : List ℕ) {x y : List ℕ} {r : ℕ} → k < 65536 → length v ≤ 21 → Placed (steps_text k ++ v ++ ascii "\n") 0 x y r →
    Prints (steps_text k ++ v ++ ascii "\n") x y r
unfolding steps_text ascii max_bytes
prints_line k v h l p = record { short = simp length-append (omega (arith, digits_within 4 k (omega arith))); placed = p }

unfinished_short : (b : Bool) (n p : ℕ) → n < 256 → p < 18446744073709551616 → length (unfinished_text b n p) ≤ max_bytes
unfolding max_bytes unfinished_text pair_text ascii
unfinished_short true n p h k =
    simp length-append (omega (arith, digits_within 19 n (omega arith), digits_within 19 p (omega arith)))
unfinished_short false n p h k =
    simp length-append (omega (arith, digits_within 19 n (omega arith), digits_within 19 p (omega arith)))

pub prints_unfinished :
    (b : Bool) (n p : ℕ) → n < 256 → p < 18446744073709551616 → {v w x y : List ℕ} {r : ℕ} → v ≡ unfinished_word b → w ≡ ascii " " →
    Placed (pair_text v n w p) 0 x y r → Prints (unfinished_text b n p) x y r
unfolding unfinished_text
prints_unfinished b n p h k e f l = record { short = unfinished_short b n p h k; placed = rw (← e, ← f) l }
