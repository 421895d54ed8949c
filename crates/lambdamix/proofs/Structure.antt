-- When refusals 6 to 8 tell nothing: the search for a number that fails a test finds none if all pass, and typed terms have
-- no unbound variable, so that a script whose root has a type passes refusal 8. Assumes nothing.
use Prim.Native.Nat.{ℕ, zero, suc, ◌+◌, ◌≤◌, ◌<◌}
use mathlib.Core.Path.{◌≡◌, refl}
use mathlib.Core.Bool.{Bool, true, false, ◌||◌}
use mathlib.Core.Logic.{◌⊎◌, inl, inr, ⊎_elim, ⊎_map}
use mathlib.Core.List.{List, [], ◌∷◌}
use mathlib.Core.Option.{none, some}
use native.Mathlib.Omega.{arith}
use lib.ListN.{length}
use lib.Dec.{ltb, eqb}
use borrow.Author.Tests.{lt-ltb, eqb-true}
use Rattle.lambdamix.specs.Script.{Script, input_count, root}
use Rattle.lambdamix.specs.Term.{Term, Terms, tree}
use Rattle.lambdamix.specs.Types.{Ty}
use Rattle.lambdamix.specs.Typing.{Context, bind, type_at_by, type_at, input_type, context_from, input_context, ◌∣◌⊢◌∶◌, Const, Var, Lift, Abstr, Apply, Fix}
use Rattle.lambdamix.specs.Typing.{If, Op, AbstrDyn, Dyn, AllDynamic, nil_dyn, cons_dyn}
use Rattle.lambdamix.specs.Refusal.{first_by, first_failing, refused_at}
use Rattle.lambdamix.specs.Structure.{one_if, occurrences, lowest, member, unless_bound, unbound, unbound_all}
use Rattle.lambdamix.specs.Structure.{scope_refusal}
use Rattle.lambdamix.proofs.Tests.{or_left, or_right}

pub none_fails : (p : ℕ → Bool) (i n : ℕ) → ((j : ℕ) → i ≤ j → j < i + n → p j ≡ true) → first_failing p i n ≡ none
unfolding first_failing first_by
none_fails p i zero h = refl
none_fails p i (suc n) h =
    rw (h i (omega arith) (omega arith)) (none_fails p (suc i) n (λ j a b. h j (omega arith) (omega arith)))

-- what occurs in a list is a member of it
pub occurs_member : (x : ℕ) (ys : List ℕ) → 0 < occurrences x ys → member x ys ≡ true
unfolding occurrences member one_if
occurs_member x [] h = let z : ⊥ = omega arith in absurd z
occurs_member x (y ∷ ys) h = go (eqb y x) h (occurs_member x ys)
  where
    go :
        (b : Bool) → 0 < one_if b + occurrences x ys → (0 < occurrences x ys → member x ys ≡ true) →
        (b || member x ys) ≡ true
    go true h r = refl
    go false h r = r (omega arith)

-- a name's type is that of the innermost binding, or of what lies behind it
bound_cases :
    (y : ℕ) (u : Ty) (Γ : Context) (x : ℕ) (t : Ty) → type_at (bind y u Γ) x ≡ some t →
    (eqb y x ≡ true) ⊎ (type_at Γ x ≡ some t)
unfolding type_at type_at_by
bound_cases y u Γ x t = go (eqb y x)
  where
    go : (b : Bool) → type_at_by b u (type_at Γ x) ≡ some t → (b ≡ true) ⊎ (type_at Γ x ≡ some t)
    go true e = inl refl
    go false e = inr e

-- every name that the context types is an input's number, below n, or among the names
pub record Covered (n : ℕ) (xs : List ℕ) (Γ : Context) : Type 0 where
  pub names : (x : ℕ) (t : Ty) → type_at Γ x ≡ some t → (x < n) ⊎ (member x xs ≡ true)

covered_bind : {n : ℕ} {xs : List ℕ} {Γ : Context} (y : ℕ) (u : Ty) → Covered n xs Γ → Covered n (y ∷ xs) (bind y u Γ)
unfolding member
covered_bind {n} {xs} {Γ} y u h = record {
  names = λ x t e.
      ⊎_elim (λ q. inr (or_left (member x xs) q)) (λ r. ⊎_map (λ l. l) (or_right (eqb y x)) (h.names x t r))
      (bound_cases y u Γ x t e);
}

-- Typed terms have no unbound variable.
mutual
  unfolding unbound unless_bound lowest

  pub typed_bound :
      {s : Script} {Γ : Context} {e : Term} {t : Ty} {n : ℕ} {xs : List ℕ} → s ∣ Γ ⊢ e ∶ t → Covered n xs Γ →
      unbound n xs e ≡ none
  typed_bound Const h = refl
  typed_bound {n} {xs} (Var {x} {t} e) h =
      rw (⊎_elim (λ l. or_left (member x xs) (lt-ltb x n l)) (or_right (ltb x n)) (h.names x t e))
  typed_bound (Lift d) h = typed_bound d h
  typed_bound (Abstr {x} {t} e d l) h = typed_bound d (covered_bind x t h)
  typed_bound (Apply d e) h = rw (typed_bound d h, typed_bound e h)
  typed_bound (Fix d) h = typed_bound d h
  typed_bound (If d e f) h = rw (typed_bound d h, typed_bound e h, typed_bound f h)
  typed_bound (Op d e) h = rw (typed_bound d h, typed_bound e h)
  typed_bound (AbstrDyn {x} d) h = typed_bound d (covered_bind x _ h)
  typed_bound (Dyn e ds) h = all_typed_bound ds h

  all_typed_bound :
      {s : Script} {Γ : Context} {es : Terms} {k n : ℕ} {xs : List ℕ} → AllDynamic s Γ es k → Covered n xs Γ →
      unbound_all n xs es ≡ none
  all_typed_bound nil_dyn h = refl
  all_typed_bound (cons_dyn d ds) h = rw (typed_bound d h, all_typed_bound ds h)

-- the inputs' names are below their count
input_below_lem : (k : ℕ) (ts : List ℕ) (x : ℕ) (t : Ty) → type_at (context_from k ts) x ≡ some t → x < k + length ts
unfolding context_from type_at
input_below_lem k [] x t e = let z : ◌≡◌ {A = ℕ} 0 1 = cc in absurd (omega arith)
input_below_lem k (u ∷ ts) x t e =
    ⊎_elim (λ q. omega (arith, eqb-true k x q)) (λ r. omega (arith, input_below_lem (suc k) ts x t r))
    (bound_cases k (input_type u) (context_from (suc k) ts) x t e)

inputs_covered : (s : Script) → Covered (input_count s) [] (input_context s)
unfolding input_context input_count
inputs_covered s = record { names = λ x t e. inl (omega (arith, input_below_lem 0 s.inputs x t e)) }

-- A script whose root has a type in its inputs' types passes refusal 8.
pub typed_scope : {t : Ty} (s : Script) → s ∣ input_context s ⊢ tree s (root s) ∶ t → scope_refusal s ≡ none
unfolding scope_refusal refused_at
typed_scope s d = rw (typed_bound d (inputs_covered s))
