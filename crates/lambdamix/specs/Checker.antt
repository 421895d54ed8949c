-- Figure 4 as a checker that computes: refusals 9, 10 and 11 of paper 01 with their places. Every branch is typed. That it
-- accepts exactly what the judgement of Typing.antt derives, and tells the lowest fault, is shown in proofs/. Assumes nothing.
use Rattle.std.specs.Prelude.{ℕ, zero, suc, Bool, true, false, ◌&&◌, List, [], ◌∷◌, leb}
use Rattle.std.proofs.Math.Option.{Option, none, some}
use Rattle.lambdamix.specs.Script.{Script, root}
use Rattle.lambdamix.specs.Term.{Term, Terms, nil_t, cons_t, arity, const, var, lifted, lam, app, fixed, cond, op, dlam, dyn, tree}
use Rattle.lambdamix.specs.Refusal.{Refusal}
use Rattle.lambdamix.specs.Types.{Ty, S, D, ◌⇒◌, same_type, type_of, listed}
use Rattle.lambdamix.specs.Typing.{Context, bind, type_at, input_context}

-- types, or the lowest fault
pub data Checked (A : Type 0) : Type 0 where
  typed : A → Checked A
  faulty : Refusal → Checked A

unfoldable pub lower_by : Bool → Refusal → Refusal → Refusal
lower_by true e f = e
lower_by false e f = f

-- "9 and 10: lowest node of either"
unfoldable pub lower : Refusal → Refusal → Refusal
lower e f = lower_by (leb e.place f.place) e f

unfoldable pub both_typed : {A B : Type 0} → Checked A → Checked B → Checked (A × B)
both_typed (typed a) (typed b) = typed (a, b)
both_typed (typed a) (faulty f) = faulty f
both_typed (faulty e) (typed b) = faulty e
both_typed (faulty e) (faulty f) = faulty (lower e f)

-- what a step's own rule says once its children have types
pub data Verdict : Type 0 where
  gives : Ty → Verdict
  fails : Verdict
  unlisted : Verdict

-- "A node is at fault if all its children have types and its own rule fails otherwise than by refusal 10."
unfoldable pub own : ℕ → Verdict → Checked Ty
own i (gives t) = typed t
own i fails = faulty (record { number = 9; place = i })
own i unlisted = faulty (record { number = 10; place = i })

unfoldable pub rule : {A : Type 0} → ℕ → (A → Verdict) → Checked A → Checked Ty
rule i r (typed a) = own i (r a)
rule i r (faulty f) = faulty f

unfoldable pub provided : Bool → Ty → Verdict
provided true t = gives t
provided false t = fails

unfoldable pub var_rule : Option Ty → Verdict
var_rule none = fails
var_rule (some t) = gives t

unfoldable pub lift_rule : Ty → Verdict
lift_rule t = provided (same_type t S) D

unfoldable pub abstr_by : Bool → Ty → Verdict
abstr_by true t = gives t
abstr_by false t = unlisted

unfoldable pub abstr_rule : Script → Ty → Ty → Verdict
abstr_rule s t u = abstr_by (listed s (t ⇒ u)) (t ⇒ u)

unfoldable pub apply_rule : Ty → Ty → Verdict
apply_rule S a = fails
apply_rule D a = fails
apply_rule (t ⇒ u) a = provided (same_type t a) u

unfoldable pub fix_rule : Ty → Verdict
fix_rule S = fails
fix_rule D = fails
fix_rule (S ⇒ u) = fails
fix_rule (D ⇒ u) = fails
fix_rule ((t ⇒ u) ⇒ v) = provided (same_type (t ⇒ u) v) (t ⇒ u)

unfoldable pub if_rule : Ty → Ty → Ty → Verdict
if_rule c t u = provided (same_type c S && same_type t u) t

unfoldable pub op_rule : Ty → Ty → Verdict
op_rule t u = provided (same_type t S && same_type u S) S

unfoldable pub abstr_dyn_rule : Ty → Verdict
abstr_dyn_rule t = provided (same_type t D) D

unfoldable pub all_dynamic : ℕ → List Ty → Bool
all_dynamic zero [] = true
all_dynamic zero (t ∷ ts) = false
all_dynamic (suc k) [] = false
all_dynamic (suc k) (t ∷ ts) = same_type t D && all_dynamic k ts

-- "Late kinds: all children D": one rule for kinds 9 to 12
unfoldable pub dyn_rule : ℕ → List Ty → Verdict
dyn_rule k ts = provided (all_dynamic k ts) D

unfoldable pub gather : Checked (Ty × List Ty) → Checked (List Ty)
gather (typed p) = typed (p.0 ∷ p.1)
gather (faulty f) = faulty f

unfoldable mutual
  pub check : Script → Context → Term → Checked Ty
  check s Γ (const i z) = typed S
  check s Γ (var i x) = own i (var_rule (type_at Γ x))
  check s Γ (lifted i e) = rule i lift_rule (check s Γ e)
  check s Γ (lam i x p e) = rule i (abstr_rule s (type_of s p)) (check s (bind x (type_of s p) Γ) e)
  check s Γ (app i e f) = rule i (λ (p : Ty × Ty). apply_rule p.0 p.1) (both_typed (check s Γ e) (check s Γ f))
  check s Γ (fixed i e) = rule i fix_rule (check s Γ e)
  check s Γ (cond i e f g) =
      rule i (λ (p : Ty × (Ty × Ty)). if_rule p.0 p.1.0 p.1.1) (both_typed (check s Γ e) (both_typed (check s Γ f) (check s Γ g)))
  check s Γ (op i o e f) = rule i (λ (p : Ty × Ty). op_rule p.0 p.1) (both_typed (check s Γ e) (check s Γ f))
  check s Γ (dlam i x e) = rule i abstr_dyn_rule (check s (bind x D Γ) e)
  check s Γ (dyn i f es) = rule i (dyn_rule (arity f)) (check_all s Γ es)

  pub check_all : Script → Context → Terms → Checked (List Ty)
  check_all s Γ nil_t = typed []
  check_all s Γ (cons_t e es) = gather (both_typed (check s Γ e) (check_all s Γ es))

-- "The root must be D."
unfoldable pub root_rule : ℕ → Checked Ty → Option Refusal
root_rule i (typed S) = some (record { number = 11; place = i })
root_rule i (typed D) = none
root_rule i (typed (t ⇒ u)) = some (record { number = 11; place = i })
root_rule i (faulty f) = some f

unfoldable pub checked_root : Script → Checked Ty
checked_root s = check s (input_context s) (tree s (root s))

-- Refusals 9, 10 and 11 of a script, or none.
unfoldable pub annotation_refusal : Script → Option Refusal
annotation_refusal s = root_rule (root s) (checked_root s)
