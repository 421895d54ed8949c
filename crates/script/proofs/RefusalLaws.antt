-- What a refusal that is none says of its parts, and back: for the steps of an order, for one test and for a test of records
-- in a row. Assumes nothing.
use Prim.Native.Nat.{ℕ, zero, suc, ◌+◌, ◌<◌}
use mathlib.Core.Path.{◌≡◌, refl, sym, ap, ◌∙◌}
use mathlib.Core.Bool.{Bool, true, false}
use mathlib.Core.Option.{Option, none, some}
use mathlib.Core.Logic.{◌⊎◌, inl, inr}
use lib.Dec.{leb}
use native.Mathlib.Omega.{arith}
use Rattle.lambdamix.specs.Refusal.{Refusal, first_by, first_failing, or_else, refused_at, refused_unless}
use Rattle.lambdamix.proofs.Structure.{none_fails}
use Rattle.script.specs.Refusals.{refused_record, earlier, earlier_by}

some_not_none : {A : Type 0} {a : A} → some a ≡ none → ⊥
some_not_none e = let z : ◌≡◌ {A = ℕ} 0 1 = cc in omega arith

-- ---- an order of refusals

pub neither : {A : Type 0} (r s : Option A) → or_else r s ≡ none → (r ≡ none) × (s ≡ none)
unfolding or_else
neither none s e = (refl, e)
neither (some a) s e = absurd (some_not_none e)

pub or_none : {A : Type 0} (r : Option A) → or_else r none ≡ r
unfolding or_else
or_none none = refl
or_none (some a) = refl

pub no_earlier : (r s : Option Refusal) → earlier r s ≡ none → (r ≡ none) × (s ≡ none)
unfolding earlier earlier_by
no_earlier none s e = (refl, e)
no_earlier (some a) none e = absurd (some_not_none e)
no_earlier (some a) (some b) e = absurd (by (leb a.place b.place) e)
  where
    by : (t : Bool) → earlier_by t a b ≡ none → ⊥
    by true d = some_not_none d
    by false d = some_not_none d

-- ---- one test

pub not_refused : (t : Bool) (k p : ℕ) → refused_unless t k p ≡ none → t ≡ true
unfolding refused_unless
not_refused true k p e = refl
not_refused false k p e = absurd (some_not_none e)

-- a test that passes is passed over
pub pass_over : {t : Bool} (k p : ℕ) (r : Option Refusal) → t ≡ true → or_else (refused_unless t k p) r ≡ r
unfolding refused_unless or_else
pass_over k p r e = rw e

pub either_some : {A : Type 0} (r s : Option A) {a : A} → or_else r s ≡ some a → (r ≡ some a) ⊎ (s ≡ some a)
unfolding or_else
either_some none s e = inr e
either_some (some b) s e = inl e

-- ---- nodes and records in a row

pub node_number : (k : ℕ) (r : Option ℕ) {f : Refusal} → refused_at k r ≡ some f → f.number ≡ k
unfolding refused_at
node_number k none e = absurd (some_not_none (sym e))
node_number k (some i) {f} e = cc

pub record_number : (k : ℕ) (offset : ℕ → ℕ) (r : Option ℕ) {f : Refusal} → refused_record k offset r ≡ some f → f.number ≡ k
unfolding refused_record
record_number k offset none e = absurd (some_not_none (sym e))
record_number k offset (some j) {f} e = cc

pub no_node : (k : ℕ) (r : Option ℕ) → refused_at k r ≡ none → r ≡ none
unfolding refused_at
no_node k none e = refl
no_node k (some i) e = absurd (some_not_none e)

pub no_record : (k : ℕ) (offset : ℕ → ℕ) (r : Option ℕ) → refused_record k offset r ≡ none → r ≡ none
unfolding refused_record
no_record k offset none e = refl
no_record k offset (some j) e = absurd (some_not_none e)

first_by_none : (t : Bool) (i : ℕ) (r : Option ℕ) → first_by t i r ≡ none → (t ≡ true) × (r ≡ none)
unfolding first_by
first_by_none true i r e = (refl, e)
first_by_none false i r e = absurd (some_not_none e)

passes_from : (p : ℕ → Bool) (i n : ℕ) → first_failing p i n ≡ none → (j : ℕ) → j < n → p (i + j) ≡ true
unfolding first_failing
passes_from p i zero e j l = let z : ⊥ = omega arith in absurd z
passes_from p i (suc n) e zero l = ap p (omega arith) ∙ (first_by_none _ _ _ e).0
passes_from p i (suc n) e (suc j) l =
    ap p (omega arith) ∙ passes_from p (suc i) n (first_by_none _ _ _ e).1 j (omega arith)

-- no record fails exactly if each passes
pub all_pass : (p : ℕ → Bool) (n : ℕ) → ((j : ℕ) → j < n → p j ≡ true) → first_failing p 0 n ≡ none
all_pass p n h = none_fails p 0 n (λ j l k. h j (omega arith))

pub passes : (p : ℕ → Bool) (n : ℕ) → first_failing p 0 n ≡ none → (j : ℕ) → j < n → p j ≡ true
passes p n e j l = ap p (omega arith) ∙ passes_from p 0 n e j l
