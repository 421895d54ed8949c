-- Signed numbers near the range as places on a line of whole numbers from 0: the order is that of the places, and the next number has the next place.
-- Assumes nothing.
use Prim.Native.Nat.{ℕ, zero, suc, ◌+◌, ◌-◌, ◌≤◌, ◌<◌}
use mathlib.Core.Path.{◌≡◌, refl, sym, subst, ◌∙◌}
use mathlib.Core.Bool.{Bool, true, false}
use mathlib.Core.Logic.{⊎_elim}
use native.Mathlib.Omega.{arith}
use lib.IntN.{ℤ, pos, negsuc, suc_ℤ}
use lib.Signed.{mag, lt_z, le_z, ◌≤ℤ◌, ◌<ℤ◌}
use lib.Dec.{T, leb, ltb}
use borrow.Author.Tests.{le-leb, lt-leb, leb-true, leb-false, lt-ltb, le-ltb, ltb-true, ltb-false}
use Rattle.lambdamix.proofs.Tests.{holds_or_fails}
use Rattle.lambdamix.specs.Arithmetic.{Fits32}

-- a number of 32 bits, or the one past the highest
abbrev pub Near : ℤ → Type 0
Near z = mag z < 2147483649

unfoldable pub place : ℤ → ℕ
place (pos n) = 2147483649 + n
place (negsuc n) = 2147483648 - n

pub near : (z : ℤ) → Fits32 z → Near z
near z h = omega arith

pub next_near : (z : ℤ) → Fits32 z → Near (suc_ℤ z)
next_near (pos n) h = omega arith
next_near (negsuc zero) h = omega arith
next_near (negsuc (suc n)) h = omega arith

pub next_place : (z : ℤ) → Near z → place (suc_ℤ z) ≡ place z + 1
unfolding place
next_place (pos n) h = omega arith
next_place (negsuc zero) h = omega arith
next_place (negsuc (suc n)) h = omega arith

leb_iff : (m n p q : ℕ) → (m ≤ n → p ≤ q) → (n < m → q < p) → leb m n ≡ leb p q
leb_iff m n p q to from =
    ⊎_elim (λ e. e ∙ sym (le-leb p q (to (leb-true m n e)))) (λ e. e ∙ sym (lt-leb p q (from (leb-false m n e)))) (holds_or_fails (leb m n))

ltb_iff : (m n p q : ℕ) → (m < n → p < q) → (n ≤ m → q ≤ p) → ltb m n ≡ ltb p q
ltb_iff m n p q to from =
    ⊎_elim (λ e. e ∙ sym (lt-ltb p q (to (ltb-true m n e)))) (λ e. e ∙ sym (le-ltb p q (from (ltb-false m n e)))) (holds_or_fails (ltb m n))

pub le_place : (a b : ℤ) → Near a → Near b → le_z a b ≡ leb (place a) (place b)
unfolding place
le_place (pos a) (pos b) f g = leb_iff a b (2147483649 + a) (2147483649 + b) (λ h. omega arith) (λ h. omega arith)
le_place (pos a) (negsuc b) f g = sym (lt-leb (2147483649 + a) (2147483648 - b) (omega arith))
le_place (negsuc a) (pos b) f g = sym (le-leb (2147483648 - a) (2147483649 + b) (omega arith))
le_place (negsuc a) (negsuc b) f g = leb_iff b a (2147483648 - a) (2147483648 - b) (λ h. omega arith) (λ h. omega arith)

pub lt_place : (a b : ℤ) → Near a → Near b → lt_z a b ≡ ltb (place a) (place b)
unfolding place
lt_place (pos a) (pos b) f g = ltb_iff a b (2147483649 + a) (2147483649 + b) (λ h. omega arith) (λ h. omega arith)
lt_place (pos a) (negsuc b) f g = sym (le-ltb (2147483649 + a) (2147483648 - b) (omega arith))
lt_place (negsuc a) (pos b) f g = sym (lt-ltb (2147483648 - a) (2147483649 + b) (omega arith))
lt_place (negsuc a) (negsuc b) f g = ltb_iff b a (2147483648 - a) (2147483648 - b) (λ h. omega arith) (λ h. omega arith)

-- ---- the order as a relation

pub T_true : (b : Bool) → T b → b ≡ true
T_true true t = refl
T_true false t = absurd t

module _ (a b : ℤ) (f : Near a) (g : Near b) where
  pub le_places : a ≤ℤ b → place a ≤ place b
  le_places h = leb-true (place a) (place b) (sym (le_place a b f g) ∙ T_true (le_z a b) h.le)

  pub places_le : place a ≤ place b → a ≤ℤ b
  places_le h = record { le = subst T (sym (le_place a b f g ∙ le-leb (place a) (place b) h)) tt }

  pub lt_places : a <ℤ b → place a < place b
  lt_places h = ltb-true (place a) (place b) (sym (lt_place a b f g) ∙ T_true (lt_z a b) h.lt)

  pub places_lt : place a < place b → a <ℤ b
  places_lt h = record { lt = subst T (sym (lt_place a b f g ∙ lt-ltb (place a) (place b) h)) tt }
