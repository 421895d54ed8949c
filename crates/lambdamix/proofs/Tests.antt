-- Small laws on Bool, on tests and on the branch that a condition takes, for all proofs of the calculus. Assumes nothing.
use mathlib.Core.Path.{◌≡◌, refl, sym, subst}
use mathlib.Core.Bool.{Bool, true, false, ◌&&◌, ◌||◌, true≢false}
use mathlib.Core.Logic.{◌⊎◌, inl, inr}
use lib.IntN.{ℤ}
use lib.Dec.{T}
use Rattle.lambdamix.specs.Term.{Term}
use Rattle.lambdamix.specs.Evaluation.{branch_by, branch}

pub T_true : {b : Bool} → T b → b ≡ true
T_true {b = true} t = refl
T_true {b = false} t = absurd t

pub true_T : {b : Bool} → b ≡ true → T b
true_T e = subst T (sym e) tt

pub and_intro : {a b : Bool} → a ≡ true → b ≡ true → (a && b) ≡ true
and_intro {a} {b} p q = rw (p, q)

pub and_both : (a b : Bool) → (a && b) ≡ true → (a ≡ true) × (b ≡ true)
and_both true b e = (refl, e)
and_both false b e = absurd (true≢false (sym e))

pub or_cases : (a b : Bool) → (a || b) ≡ true → (a ≡ true) ⊎ (b ≡ true)
or_cases true b e = inl refl
or_cases false b e = inr e

pub or_left : {a : Bool} (b : Bool) → a ≡ true → (a || b) ≡ true
or_left b e = rw e

pub or_right : (a : Bool) {b : Bool} → b ≡ true → (a || b) ≡ true
or_right true e = refl
or_right false e = e

-- a test holds or fails
pub holds_or_fails : (b : Bool) → (b ≡ true) ⊎ (b ≡ false)
holds_or_fails true = inl refl
holds_or_fails false = inr refl

-- what holds of both branches holds of the one that a test takes,
by_test : (P : Term → Type 0) (b : Bool) {e f : Term} → P e → P f → P (branch_by b e f)
unfolding branch_by
by_test P true p q = q
by_test P false p q = p

-- and of the one that a condition takes, whatever it tests
pub by_branch : (P : Term → Type 0) (z : ℤ) {e f : Term} → P e → P f → P (branch z e f)
unfolding branch
by_branch P z p q = by_test P _ p q
