-- A number of 32 bits as the code writes it: the sign apart, and its distance from 0. Assumes nothing.
use mathlib.Core.Path.{◌≡◌, refl}
use mathlib.Core.Bool.{true, false}
use mathlib.Core.List.{◌∷◌}
use native.Mathlib.Omega.{arith}
use lib.IntN.{ℤ, pos, negsuc, nat_abs}
use lib.Signed.{lt_z}
use borrow.Author.Tests.{ltb-true}
use mir.Syntax.{w32}
use mir.Val.{SFits, to_z, of_z}
use mir.Facts.{to_z-of_z}
use Rattle.lambdamix.specs.Text.{digits, decimal}

-- what is put, from the bits that a call hands on
pub read_back : (z : ℤ) → SFits w32 z → to_z w32 (of_z w32 z) ≡ z
read_back z f = to_z-of_z {w = w32} f

pub decimal_unsigned : (z : ℤ) → lt_z z (pos 0) ≡ false → decimal z ≡ digits (nat_abs z)
unfolding decimal
decimal_unsigned (pos n) e = refl
decimal_unsigned (negsuc n) e = cc

pub decimal_signed : (z : ℤ) → lt_z z (pos 0) ≡ true → decimal z ≡ 45 ∷ digits (nat_abs z)
unfolding decimal
decimal_signed (pos n) e = absurd (omega (arith, ltb-true n 0 e))
decimal_signed (negsuc n) e = refl
