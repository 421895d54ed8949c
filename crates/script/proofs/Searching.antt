-- A loop that looks for the first place at which a test fails: what holds as it goes, and what it has found. Assumes nothing.
use Prim.Native.Nat.{ℕ, zero, suc, ◌+◌, ◌-◌, ◌<◌, ◌≤◌}
use mathlib.Core.Path.{◌≡◌, refl, sym, ap, ap₂, ◌∙◌}
use mathlib.Core.Bool.{Bool, true, false}
use mathlib.Core.Option.{Option, none, some}
use native.Mathlib.Omega.{arith}
use Rattle.lambdamix.specs.Refusal.{first_by, first_failing}
use Rattle.script.specs.Answers.{Found}
use Rattle.script.specs.Verdicts.{found_at, FoundBelow}

-- the places before i of n passed the test
pub record Searching (p : ℕ → Bool) (i n : ℕ) : Type 0 where
  pub within : i ≤ n
  pub passed : first_failing p 0 n ≡ first_failing p i (n - i)

module _ (p : ℕ → Bool) where
  at_next : (i k m : ℕ) → k ≡ suc m → first_failing p i k ≡ first_by (p i) i (first_failing p (suc i) m)
  unfolding first_failing
  at_next i k m e = ap (first_failing p i) e

  at_end : (i k : ℕ) → k ≡ 0 → first_failing p i k ≡ none
  unfolding first_failing
  at_end i k e = ap (first_failing p i) e

  pub search_begins : (n : ℕ) → Searching p 0 n
  search_begins n = record { within = omega arith; passed = ap (first_failing p 0) (omega arith) }

  pub search_goes_on : {i n : ℕ} → Searching p i n → i < n → p i ≡ true → Searching p (i + 1) n
  unfolding first_by
  search_goes_on {i} {n} s h e =
      record {
        within = omega arith;
        passed =
            s.passed ∙ at_next i (n - i) (n - (i + 1)) (omega arith) ∙ rw e (ap (λ (k : ℕ). first_failing p k (n - (i + 1))) (omega arith));
      }

  pub search_finds : {i n : ℕ} → Searching p i n → i < n → p i ≡ false → some i ≡ first_failing p 0 n
  unfolding first_by
  search_finds {i} {n} s h e = sym (s.passed ∙ at_next i (n - i) (n - (i + 1)) (omega arith) ∙ rw e)

  pub search_ends : {i n : ℕ} → Searching p i n → n ≤ i → none ≡ first_failing p 0 n
  search_ends {i} {n} s h = sym (s.passed ∙ at_end i (n - i) (omega arith))

-- what a search finds is among the places searched
failing_below : (p : ℕ → Bool) (i n j : ℕ) → first_failing p i n ≡ some j → j < i + n
unfolding first_failing first_by
failing_below p i zero j e = let z : ◌≡◌ {A = ℕ} 0 1 = cc in let w : ⊥ = omega arith in absurd w
failing_below p i (suc n) j e = by (p i) (failing_below p (suc i) n j) e
  where
    by : (b : Bool) → (first_failing p (suc i) n ≡ some j → j < suc i + n) → first_by b i (first_failing p (suc i) n) ≡ some j → j < i + suc n
    by true rest h = omega (arith, rest h)
    by false rest h = let z : i ≡ j = cc in omega arith

pub found_below : (p : ℕ → Bool) (n : ℕ) (r : Found) {m : ℕ} → found_at r ≡ first_failing p 0 n → n ≤ m → FoundBelow m r
found_below p n r e h j f = omega (arith, failing_below p 0 n j (sym e ∙ f))

-- two tests that agree at the places searched
pub first_same : (p q : ℕ → Bool) (i n : ℕ) → ((k : ℕ) → k < i + n → p k ≡ q k) → first_failing p i n ≡ first_failing q i n
unfolding first_failing
first_same p q i zero h = refl
first_same p q i (suc n) h =
    ap₂ (λ (b : Bool) (r : Option ℕ). first_by b i r) (h i (omega arith)) (first_same p q (suc i) n (λ k l. h k (omega arith)))
