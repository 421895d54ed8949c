-- The type rules of source document 001, Figure 4, with the figure's names: `s ∣ Γ ⊢ e ∶ t` says that the term e has the
-- type t where Γ gives its free names their types. The script s gives the listed types; (Abstr) asks that a function's type
-- is listed, as paper 01, "Marks", does. (Dyn) is Apply-dyn, Fix-dyn, If-dyn and Op-dyn in one. Assumes nothing.
use Rattle.std.specs.Prelude.{ℕ, suc, ◌≡◌, Bool, true, false, List, [], ◌∷◌, ℤ, T, eqb}
use Rattle.std.proofs.Math.Option.{Option, none, some}
use Rattle.lambdamix.specs.declared.Operator.{Operator}
use Rattle.lambdamix.specs.Script.{Script}
use Rattle.lambdamix.specs.Term.{Term, Terms, nil_t, cons_t, Former, arity, const, var, lifted, lam, app, fixed, cond, op, dlam, dyn}
use Rattle.lambdamix.specs.Types.{Ty, S, D, ◌⇒◌, type_of, listed}

-- a type environment: names with their types, the innermost first
pub data Context : Type 0 where
  empty : Context
  bind : ℕ → Ty → Context → Context

unfoldable pub type_at_by : Bool → Ty → Option Ty → Option Ty
type_at_by true t r = some t
type_at_by false t r = r

-- "Variable: its binder's", and "the innermost binder of a name rules"
unfoldable pub type_at : Context → ℕ → Option Ty
type_at empty x = none
type_at (bind y t Γ) x = type_at_by (eqb y x) t (type_at Γ x)

-- `IN`: "type, 2 bytes, 0 or 1"
unfoldable pub input_type_by : Bool → Ty
input_type_by true = D
input_type_by false = S

unfoldable pub input_type : ℕ → Ty
input_type t = input_type_by (eqb t 1)

unfoldable pub context_from : ℕ → List ℕ → Context
context_from k [] = empty
context_from k (t ∷ ts) = bind k (input_type t) (context_from (suc k) ts)

-- "Input k has the name k"
unfoldable pub input_context : Script → Context
input_context s = context_from 0 s.inputs

infix 10 ◌∣◌⊢◌∶◌
mutual
  pub data ◌∣◌⊢◌∶◌ (s : Script) : Context → Term → Ty → Type 0 where
    Const : {Γ : Context} {i : ℕ} {z : ℤ} → s ∣ Γ ⊢ const i z ∶ S
    Var : {Γ : Context} {i x : ℕ} {t : Ty} → type_at Γ x ≡ some t → s ∣ Γ ⊢ var i x ∶ t
    Lift : {Γ : Context} {i : ℕ} {e : Term} → s ∣ Γ ⊢ e ∶ S → s ∣ Γ ⊢ lifted i e ∶ D
    Abstr :
        {Γ : Context} {i x p : ℕ} {e : Term} {t u : Ty} → type_of s p ≡ t → s ∣ bind x t Γ ⊢ e ∶ u → T (listed s (t ⇒ u)) →
        s ∣ Γ ⊢ lam i x p e ∶ t ⇒ u
    Apply : {Γ : Context} {i : ℕ} {e f : Term} {t u : Ty} → s ∣ Γ ⊢ e ∶ t ⇒ u → s ∣ Γ ⊢ f ∶ t → s ∣ Γ ⊢ app i e f ∶ u
    Fix : {Γ : Context} {i : ℕ} {e : Term} {t u : Ty} → s ∣ Γ ⊢ e ∶ (t ⇒ u) ⇒ (t ⇒ u) → s ∣ Γ ⊢ fixed i e ∶ t ⇒ u
    If :
        {Γ : Context} {i : ℕ} {e f g : Term} {t : Ty} → s ∣ Γ ⊢ e ∶ S → s ∣ Γ ⊢ f ∶ t → s ∣ Γ ⊢ g ∶ t →
        s ∣ Γ ⊢ cond i e f g ∶ t
    Op :
        {Γ : Context} {i : ℕ} {o : Operator} {e f : Term} → s ∣ Γ ⊢ e ∶ S → s ∣ Γ ⊢ f ∶ S → s ∣ Γ ⊢ op i o e f ∶ S
    AbstrDyn : {Γ : Context} {i x : ℕ} {e : Term} → s ∣ bind x D Γ ⊢ e ∶ D → s ∣ Γ ⊢ dlam i x e ∶ D
    Dyn : {Γ : Context} {i k : ℕ} {f : Former} {es : Terms} → arity f ≡ k → AllDynamic s Γ es k → s ∣ Γ ⊢ dyn i f es ∶ D

  -- k terms, each of type D
  pub data AllDynamic (s : Script) : Context → Terms → ℕ → Type 0 where
    nil_dyn : {Γ : Context} → AllDynamic s Γ nil_t 0
    cons_dyn :
        {Γ : Context} {e : Term} {es : Terms} {k : ℕ} → s ∣ Γ ⊢ e ∶ D → AllDynamic s Γ es k →
        AllDynamic s Γ (cons_t e es) (suc k)
