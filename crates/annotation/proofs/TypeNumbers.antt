-- Types by their numbers, in a script whose type records fit: what a number stands for, that equal types have equal numbers,
-- which function types are listed, and what the rules on types say of numbers. Assumes nothing.
use Prim.Native.Nat.{ℕ, zero, suc, ◌+◌, ◌-◌, ◌≤◌, ◌<◌}
use mathlib.Core.Path.{◌≡◌, refl, sym, ◌∙◌}
use mathlib.Core.Bool.{Bool, true, false, ◌&&◌, false≢true}
use mathlib.Core.Logic.{⊎_elim, ◌⊎◌, inl, inr}
use mathlib.Core.Option.{Option, none, some}
use native.Mathlib.Omega.{arith}
use native.Mathlib.Nat.{eq-or-lt_of_le}
use lib.ListN.{length, get_or}
use lib.Dec.{leb, ltb, eqb}
use borrow.Author.Tests.{ltb-true, eq-eqb, ne_eqb, eqb-true, le-leb, lt-leb, leb-true, leb-false, not-true}
use Rattle.lambdamix.specs.Script.{Script, FunctionType}
use Rattle.lambdamix.specs.Falling.{falling, falling_by}
use Rattle.lambdamix.specs.Types.{Ty, S, D, ◌⇒◌, same_type, blank_type, type_by, type_step, type_of, type_count, some_type, listed}
use Rattle.lambdamix.specs.Checker.{provided, lift_rule, apply_rule, fix_rule, if_rule, op_rule, abstr_dyn_rule}
use Rattle.lambdamix.proofs.Checking.{same_type_refl}
use Rattle.lambdamix.proofs.Falling.{falling_step, below_at}
use Rattle.lambdamix.proofs.Tests.{and_both, and_intro, or_cases, or_left, or_right, holds_or_fails}
use Rattle.script.specs.Refusals.{same_pair, other_pair, is_none, type_fits}
use Rattle.script.proofs.RefusalLaws.{passes}
use Rattle.script.proofs.Sound.{Sound}

no_type : (o : Option ℕ) → is_none o ≡ true → o ≡ none
unfolding is_none
no_type none e = refl
no_type (some i) e = absurd (false≢true e)

-- two tests that imply each other are one
same_tests : (a b : Bool) → (a ≡ true → b ≡ true) → (b ≡ true → a ≡ true) → a ≡ b
same_tests true b f g = sym (f refl)
same_tests false true f g = g refl
same_tests false false f g = refl

compared : (i j : ℕ) → (i ≡ j) ⊎ ((i < j) ⊎ (j < i))
compared i j =
    ⊎_elim (λ e. ⊎_elim inl (λ w. inr (inl w)) (eq-or-lt_of_le (leb-true i j e))) (λ e. inr (inr (leb-false i j e)))
    (holds_or_fails (leb i j))

some_type_lem : (f : ℕ → Ty) (n : ℕ) (t : Ty) (k : ℕ) → k < n → same_type (f k) t ≡ true → some_type f n t ≡ true
unfolding some_type
some_type_lem f zero t k h e = let n : ⊥ = omega arith in absurd n
some_type_lem f (suc n) t k h e =
    ⊎_elim (λ (w : k ≡ n). or_left (some_type f n t) (rw w at e)) (λ (w : k < n). or_right (same_type (f n) t) (some_type_lem f n t k w e))
    (eq-or-lt_of_le {n = k} {m = n} (omega arith))

which_type : (f : ℕ → Ty) (n : ℕ) (t : Ty) → some_type f n t ≡ true → (k : ℕ) × (k < n) × (same_type (f k) t ≡ true)
unfolding some_type
which_type f zero t e = absurd (false≢true e)
which_type f (suc n) t e =
    ⊎_elim (λ w. (n, omega arith, w)) (λ w. let (k, h, q) = which_type f n t w in (k, omega arith, q))
    (or_cases (same_type (f n) t) (some_type f n t) e)

pub type_zero : (s : Script) → type_of s 0 ≡ S
unfolding type_of falling falling_by type_step type_by
type_zero s = refl

pub type_one : (s : Script) → type_of s 1 ≡ D
unfolding type_of falling falling_by type_step type_by
type_one s = refl

abbrev pub pair : Script → ℕ → FunctionType
pair s j = get_or s.types j blank_type

-- what a number stands for
pub data View (s : Script) (k : ℕ) : Ty → Type 0 where
  static : k ≡ 0 → View s k S
  dynamic : k ≡ 1 → View s k D
  arrow : (j : ℕ) → k ≡ 2 + j → j < length s.types → View s k (type_of s (pair s j).parameter ⇒ type_of s (pair s j).result)

module _ (s : Script) (ok : Sound s) where
  pub parts : (j : ℕ) → j < length s.types → ((pair s j).parameter < 2 + j) × ((pair s j).result < 2 + j)
  unfolding type_fits
  parts j h =
      let (p, q) = and_both (ltb (pair s j).parameter (2 + j)) _ (ok.types_fit j h) in
      let (r, _) = and_both (ltb (pair s j).result (2 + j)) _ q in
      (ltb-true _ _ p, ltb-true _ _ r)

  -- no pair is listed twice
  once : (i j : ℕ) → i < j → j < length s.types → same_pair (pair s i) (pair s j) ≡ false
  unfolding type_fits other_pair
  once i j l h =
      let (_, q) = and_both (ltb (pair s j).parameter (2 + j)) _ (ok.types_fit j h) in
      let (_, r) = and_both (ltb (pair s j).result (2 + j)) _ q in
      not-true _ (passes (other_pair (pair s) j) j (no_type _ r) i l)

  pub function_type :
      (j : ℕ) → j < length s.types → type_of s (2 + j) ≡ type_of s (pair s j).parameter ⇒ type_of s (pair s j).result
  unfolding type_of type_step type_by
  function_type j h =
      let (p, q) = parts j h in
      let e : 2 + j - 2 ≡ j = omega arith in
      falling_step S (type_step s) (2 + j)
      ∙ rw (ne_eqb (2 + j) 0 (λ w. omega arith), ne_eqb (2 + j) 1 (λ w. omega arith), e, below_at (2 + j) S (type_of s) _ p, below_at (2 + j) S (type_of s) _ q)

  pub view : (k : ℕ) → k < type_count s → View s k (type_of s k)
  unfolding type_count
  view zero h = rw type_zero (static refl)
  view (suc zero) h = rw type_one (dynamic refl)
  view (suc (suc j)) h =
      let e : suc (suc j) ≡ 2 + j = omega arith in
      rw (e, function_type j (omega arith)) (arrow j refl (omega arith))

  -- a pair is listed by one record
  same_record :
      (i j : ℕ) → i < length s.types → j < length s.types → (pair s i).parameter ≡ (pair s j).parameter →
      (pair s i).result ≡ (pair s j).result → i ≡ j
  unfolding same_pair
  same_record i j h l p q =
      elim (compared i j) [
        | inl e ↦ e
        | inr w ↦ ⊎_elim (λ v. absurd (false≢true (sym (once i j v l) ∙ and_intro (eq-eqb _ _ p) (eq-eqb _ _ q))))
            (λ v. absurd (false≢true (sym (once j i v h) ∙ and_intro (eq-eqb _ _ (sym p)) (eq-eqb _ _ (sym q))))) w
      ]

  same_views :
      (g : ℕ) →
      ((p q : ℕ) → p < g → p < type_count s → q < type_count s → same_type (type_of s p) (type_of s q) ≡ true → p ≡ q) →
      {j k : ℕ} {t u : Ty} → j ≤ g → View s j t → View s k u → same_type t u ≡ true → j ≡ k
  unfolding same_type type_count
  same_views g ih h (static e) (static f) q = e ∙ sym f
  same_views g ih h (static e) (dynamic f) q = absurd (false≢true q)
  same_views g ih h (static e) (arrow j f l) q = absurd (false≢true q)
  same_views g ih h (dynamic e) (static f) q = absurd (false≢true q)
  same_views g ih h (dynamic e) (dynamic f) q = e ∙ sym f
  same_views g ih h (dynamic e) (arrow j f l) q = absurd (false≢true q)
  same_views g ih h (arrow i e m) (static f) q = absurd (false≢true q)
  same_views g ih h (arrow i e m) (dynamic f) q = absurd (false≢true q)
  same_views g ih h (arrow i e m) (arrow j f l) q =
      let (a, b) = and_both (same_type (type_of s (pair s i).parameter) (type_of s (pair s j).parameter)) _ q in
      let (c, d) = parts i m in
      let (v, w) = parts j l in
      let x : i ≡ j = same_record i j m l (ih _ _ (omega arith) (omega arith) (omega arith) a) (ih _ _ (omega arith) (omega arith) (omega arith) b) in
      omega arith

  one_number :
      (g j k : ℕ) → j < g → j < type_count s → k < type_count s → same_type (type_of s j) (type_of s k) ≡ true → j ≡ k
  one_number zero j k h m l e = let n : ⊥ = omega arith in absurd n
  one_number (suc g) j k h m l e = same_views g (one_number g) (omega arith) (view j m) (view k l) e

  -- Theorem: equal types have equal numbers.
  pub same_number : (j k : ℕ) → j < type_count s → k < type_count s → same_type (type_of s j) (type_of s k) ≡ eqb j k
  same_number j k m l =
      same_tests _ _ (λ e. eq-eqb j k (one_number (suc j) j k (omega arith) m l e))
      (λ e. rw (eqb-true j k e) (same_type_refl (type_of s k)))

  -- Theorem: a function type is listed exactly if some record has the numbers of its parts.
  pub listed_pair : (j : ℕ) → j < length s.types → listed s (type_of s (pair s j).parameter ⇒ type_of s (pair s j).result) ≡ true
  unfolding listed type_count
  listed_pair j h =
      some_type_lem (type_of s) (2 + length s.types) _ (2 + j) (omega arith) (rw (function_type j h) (same_type_refl _))

  pub unlisted_pair :
      (p r : ℕ) → p < type_count s → r < type_count s →
      ((j : ℕ) → j < length s.types → (pair s j).parameter ≡ p → (pair s j).result ≡ r → ⊥) →
      listed s (type_of s p ⇒ type_of s r) ≡ false
  unfolding listed type_count same_type
  unlisted_pair p r hp hr other =
      same_tests _ _ (λ e. let (k, h, q) = which_type (type_of s) (2 + length s.types) (type_of s p ⇒ type_of s r) e in refuted (view k h)
      q) (λ e. absurd (false≢true e))
    where
      refuted : {k : ℕ} {t : Ty} → View s k t → same_type t (type_of s p ⇒ type_of s r) ≡ true → false ≡ true
      refuted (static e) q = q
      refuted (dynamic e) q = q
      refuted (arrow j e h) q =
          let (a, b) = and_both (same_type (type_of s (pair s j).parameter) (type_of s p)) _ q in
          let (c, d) = parts j h in
          absurd (other j h (one_number (2 + j) _ p c (omega arith) hp a) (one_number (2 + j) _ r d (omega arith) hr b))

  -- (Apply) on numbers
  pub apply_numbers :
      (f x : ℕ) → f < type_count s → x < type_count s →
      apply_rule (type_of s f) (type_of s x)
      ≡ provided (leb 2 f && eqb (pair s (f - 2)).parameter x) (type_of s (pair s (f - 2)).result)
  unfolding apply_rule provided type_count
  apply_numbers f x h l = by_view (view f h)
    where
      by_view :
          {t : Ty} → View s f t →
          apply_rule t (type_of s x)
          ≡ provided (leb 2 f && eqb (pair s (f - 2)).parameter x) (type_of s (pair s (f - 2)).result)
      by_view (static e) = rw (lt-leb 2 f (omega arith))
      by_view (dynamic e) = rw (lt-leb 2 f (omega arith))
      by_view (arrow j e m) =
          let a : f - 2 ≡ j = omega arith in
          let (p, q) = parts j m in
          rw (le-leb 2 f (omega arith), a, same_number (pair s j).parameter x (omega arith) l)

  -- (Fix) on numbers
  pub fix_numbers :
      (f : ℕ) → f < type_count s →
      fix_rule (type_of s f)
      ≡ provided
      (leb 2 f && (leb 2 (pair s (f - 2)).parameter && eqb (pair s (f - 2)).parameter (pair s (f - 2)).result))
      (type_of s (pair s (f - 2)).parameter)
  unfolding fix_rule provided type_count
  fix_numbers f h = by_view (view f h)
    where
      by_parameter :
          (p r : ℕ) → p < type_count s → r < type_count s → {t : Ty} → View s p t → t ≡ type_of s p →
          fix_rule (t ⇒ type_of s r) ≡ provided (leb 2 p && eqb p r) t
      by_parameter p r m l (static e) w = rw (lt-leb 2 p (omega arith))
      by_parameter p r m l (dynamic e) w = rw (lt-leb 2 p (omega arith))
      by_parameter p r m l (arrow j e k) w = rw (le-leb 2 p (omega arith), w, same_number p r m l)

      by_view :
          {t : Ty} → View s f t →
          fix_rule t
          ≡ provided
          (leb 2 f && (leb 2 (pair s (f - 2)).parameter && eqb (pair s (f - 2)).parameter (pair s (f - 2)).result))
          (type_of s (pair s (f - 2)).parameter)
      by_view (static e) = rw (lt-leb 2 f (omega arith))
      by_view (dynamic e) = rw (lt-leb 2 f (omega arith))
      by_view (arrow j e m) =
          let a : f - 2 ≡ j = omega arith in
          let (p, q) = parts j m in
          rw (le-leb 2 f (omega arith), a) (by_parameter _ _ (omega arith) (omega arith) (view (pair s j).parameter (omega arith)) refl)

  same_static : (t : ℕ) → t < type_count s → same_type (type_of s t) S ≡ eqb t 0
  unfolding type_count
  same_static t h = rw (← type_zero s) (same_number t 0 h (omega arith))

  pub same_dynamic : (t : ℕ) → t < type_count s → same_type (type_of s t) D ≡ eqb t 1
  unfolding type_count
  same_dynamic t h = rw (← type_one s) (same_number t 1 h (omega arith))

  -- (Lift), (If) and (Op) on numbers
  pub lift_numbers : (t : ℕ) → t < type_count s → lift_rule (type_of s t) ≡ provided (eqb t 0) (type_of s 1)
  unfolding lift_rule
  lift_numbers t h = rw (same_static t h, type_one s)

  pub if_numbers :
      (c t u : ℕ) → c < type_count s → t < type_count s → u < type_count s →
      if_rule (type_of s c) (type_of s t) (type_of s u) ≡ provided (eqb c 0 && eqb t u) (type_of s t)
  unfolding if_rule
  if_numbers c t u h k l = rw (same_static c h, same_number t u k l)

  pub op_numbers :
      (t u : ℕ) → t < type_count s → u < type_count s →
      op_rule (type_of s t) (type_of s u) ≡ provided (eqb t 0 && eqb u 0) (type_of s 0)
  unfolding op_rule
  op_numbers t u h k = rw (same_static t h, same_static u k, type_zero s)

  -- (Abstr) of a dynamic function on numbers
  pub dynamic_function_lem : (t : ℕ) → t < type_count s → abstr_dyn_rule (type_of s t) ≡ provided (eqb t 1) (type_of s 1)
  unfolding abstr_dyn_rule
  dynamic_function_lem t h = rw (same_dynamic t h, type_one s)
