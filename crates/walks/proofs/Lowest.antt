-- The lowest number of which something holds: it is one number at most, and both a search upward and a walk find it.
-- Assumes nothing.
use Prim.Native.Nat.{ℕ, zero, suc, ◌+◌, ◌≤◌, ◌<◌}
use mathlib.Core.Path.{◌≡◌, refl, sym, ap, subst, ◌∙◌}
use mathlib.Core.Bool.{Bool, true, false, true≢false}
use mathlib.Core.List.{List, [], ◌∷◌}
use mathlib.Core.Option.{Option, none, some}
use mathlib.Core.Logic.{◌⊎◌, inl, inr, ⊎_elim}
use native.Mathlib.Omega.{arith}
use native.Mathlib.Nat.{le_antisymm, le_refl, eq-or-lt_of_le}
use lib.Dec.{leb, eqb}
use borrow.Author.Tests.{leb-true, leb-false, eqb-true, eq-eqb}
use Rattle.lambdamix.specs.Refusal.{first_by, first_failing}
use Rattle.lambdamix.specs.Structure.{lowest, lowest_by, member}
use Rattle.lambdamix.proofs.Tests.{or_cases, or_left, or_right}
use Rattle.walks.specs.Walks.{gathered}

pub data Lowest (Q : ℕ → Type 0) : Option ℕ → Type 0 where
  nowhere : ((j : ℕ) → Q j → ⊥) → Lowest Q none
  first : {m : ℕ} → Q m → ((j : ℕ) → Q j → m ≤ j) → Lowest Q (some m)

-- there is one such number at most
pub lowest_one : {Q : ℕ → Type 0} {r s : Option ℕ} → Lowest Q r → Lowest Q s → r ≡ s
lowest_one (nowhere n) (nowhere m) = refl
lowest_one (nowhere n) (first q l) = absurd (n _ q)
lowest_one (first q l) (nowhere n) = absurd (n _ q)
lowest_one (first p k) (first q l) = ap some (le_antisymm (k _ q) (l _ p))

pub lowest_of : {P Q : ℕ → Type 0} {r : Option ℕ} → ((j : ℕ) → P j → Q j) → ((j : ℕ) → Q j → P j) → Lowest P r → Lowest Q r
lowest_of f g (nowhere n) = nowhere (λ j q. n j (g j q))
lowest_of f g (first p l) = first (f _ p) (λ j q. l j (g j q))

-- the lower of two is the lowest of both
pub lowest_both : {P Q : ℕ → Type 0} {r s : Option ℕ} → Lowest P r → Lowest Q s → Lowest (λ j. P j ⊎ Q j) (lowest r s)
unfolding lowest lowest_by
lowest_both (nowhere n) (nowhere m) = nowhere (λ j e. ⊎_elim (n j) (m j) e)
lowest_both (nowhere n) (first q l) = first (inr q) (λ j e. ⊎_elim (λ p. absurd (n j p)) (l j) e)
lowest_both (first p k) (nowhere n) = first (inl p) (λ j e. ⊎_elim (k j) (λ q. absurd (n j q)) e)
lowest_both {P} {Q} (first {m = i} p k) (first {m = h} q l) = go (leb i h) refl
  where
    go : (b : Bool) → leb i h ≡ b → Lowest (λ j. P j ⊎ Q j) (lowest_by b i h)
    go true e = let w : i ≤ h = leb-true i h e in first (inl p) (λ j u. ⊎_elim (k j) (λ v. omega (arith, l j v)) u)
    go false e = let w : h < i = leb-false i h e in first (inr q) (λ j u. ⊎_elim (λ v. omega (arith, k j v)) (l j) u)

-- one number that fails a test, or none
pub lowest_own : (b : Bool) (i : ℕ) → Lowest (λ j. (j ≡ i) × (b ≡ false)) (first_by b i none)
unfolding first_by
lowest_own true i = nowhere (λ j e. true≢false e.1)
lowest_own false i = first (refl, refl) (λ j e. omega (arith, e.0))

-- a search upward finds the lowest number that fails
pub lowest_failing : (p : ℕ → Bool) (i n : ℕ) → Lowest (λ j. (i ≤ j) × ((j < i + n) × (p j ≡ false))) (first_failing p i n)
unfolding first_failing first_by
lowest_failing p i zero = nowhere (λ j e. omega (arith, e.0, e.1.0))
lowest_failing p i (suc n) = go (p i) refl (lowest_failing p (suc i) n)
  where
    go : (b : Bool) → p i ≡ b → {r : Option ℕ} → Lowest (λ j. (suc i ≤ j) × ((j < suc i + n) × (p j ≡ false))) r
        → Lowest (λ j. (i ≤ j) × ((j < i + suc n) × (p j ≡ false))) (first_by b i r)
    go true e h =
        lowest_of (λ j u. (omega (arith, u.0), (omega (arith, u.1.0), u.1.1)))
        (λ j u. (⊎_elim (λ q. absurd (true≢false (sym e ∙ ap p q ∙ u.1.1))) (λ l. l) (eq-or-lt_of_le u.0), (omega (arith, u.1.0), u.1.1))) h
    go false e h = first (le_refl i, (omega arith, e)) (λ j u. u.0)

-- the lowest of the answers at some numbers is the lowest of all that holds there
pub lowest_gathered :
    (Q : ℕ → ℕ → Type 0) (self : ℕ → Option ℕ) (ms : List ℕ) → ((m : ℕ) → member m ms ≡ true → Lowest (Q m) (self m))
    → Lowest (λ j. (m : ℕ) × (member m ms ≡ true) × Q m j) (gathered lowest none self ms)
unfolding gathered member
lowest_gathered Q self [] h = nowhere (λ j u. true≢false (sym u.1))
lowest_gathered Q self (k ∷ ms) h =
    lowest_of
    (λ j u. ⊎_elim (λ q. (k, or_left _ (eq-eqb k k refl), q)) (λ v. (v.0, or_right (eqb k v.0) v.1, v.2)) u)
    (λ j u. ⊎_elim (λ e. inl (subst (λ (m : ℕ). Q m j) (sym (eqb-true k u.0 e)) u.2)) (λ e. inr (u.0, e, u.2)) (or_cases _ _ u.1))
    (lowest_both (h k (or_left _ (eq-eqb k k refl))) (lowest_gathered Q self ms (λ m e. h m (or_right (eqb k m) e))))
