-- Decimals, one digit at a time. Assumes nothing.
use Prim.Native.Nat.{ℕ, zero, suc, ◌+◌, ◌/◌, ◌%◌, ◌^◌, ◌≤◌, ◌<◌}
use mathlib.Core.Path.{◌≡◌, refl, ◌∙◌}
use mathlib.Core.Bool.{Bool, true, false}
use mathlib.Core.List.{[], ◌∷◌, ◌++◌}
use native.Mathlib.Nat.{pow-suc}
use native.Mathlib.Omega.{arith}
use lib.ListN.{length, length-append}
use lib.Dec.{ltb}
use borrow.Author.Tests.{lt-ltb, le-ltb, ltb-true, ltb-false}
use Rattle.lambdamix.specs.Text.{digits_by, digits_step, digits}
use Rattle.lambdamix.proofs.Falling.{falling_step, below_at}

pub one_digit : (x : ℕ) → x < 10 → digits x ≡ (48 + x) ∷ []
unfolding digits digits_step digits_by
one_digit x h = falling_step [] digits_step x ∙ rw (lt-ltb x 10 h)

pub last_digit : (x : ℕ) → 10 ≤ x → digits x ≡ digits (x / 10) ++ ((48 + x % 10) ∷ [])
unfolding digits digits_step digits_by
last_digit x h = falling_step [] digits_step x ∙ rw (le-ltb x 10 h, below_at x [] digits (x / 10) (omega arith))

-- a number below a power of ten has no more digits than the power
pub digits_within : (k x : ℕ) → x < 10 ^ suc k → length (digits x) ≤ suc k
digits_within zero x h = rw (one_digit x h) (omega arith)
digits_within (suc k) x h = go (ltb x 10) refl (digits_within k (x / 10) (omega (arith, rw (pow-suc 10 (suc k)) at h)))
  where
    go : (b : Bool) → ltb x 10 ≡ b → length (digits (x / 10)) ≤ suc k → length (digits x) ≤ suc (suc k)
    go true e r = rw (one_digit x (ltb-true x 10 e)) (omega arith)
    go false e r =
        rw (last_digit x (ltb-false x 10 e), length-append (digits (x / 10)) ((48 + x % 10) ∷ [])) (omega arith)
