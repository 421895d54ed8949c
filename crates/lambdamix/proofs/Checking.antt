-- The checker and the judgement of Figure 4 agree: it gives the types that can be derived, and no others. The induction shows
-- along with it that the checker tells the lowest fault, which LowestFault.antt states. Assumes nothing.
use Prim.Native.Nat.{ℕ, zero, suc, ◌≤◌}
use mathlib.Core.Path.{◌≡◌, refl, ap}
use mathlib.Core.Bool.{Bool, true, false, false≢true}
use mathlib.Core.List.{List, [], ◌∷◌}
use mathlib.Core.Option.{Option, none, some}
use mathlib.Core.Logic.{◌↔◌}
use native.Mathlib.Omega.{arith}
use Rattle.lambdamix.specs.declared.Operator.{Operator}
use Rattle.lambdamix.specs.Script.{Script, root}
use Rattle.lambdamix.specs.Term.{Term, Terms, nil_t, cons_t, arity, const, var, lifted, lam, app, fixed, cond, op, dlam, dyn, tree, node_of}
use Rattle.lambdamix.specs.Types.{Ty, S, D, ◌⇒◌, same_type, type_of, listed}
use Rattle.lambdamix.specs.Typing.{Context, bind, type_at, input_context, ◌∣◌⊢◌∶◌, Const, Var, Lift, Abstr, Apply, Fix, If, Op, AbstrDyn, Dyn}
use Rattle.lambdamix.specs.Typing.{AllDynamic, nil_dyn, cons_dyn}
use Rattle.lambdamix.specs.Refusal.{Refusal}
use Rattle.lambdamix.specs.Checker.{Checked, typed, faulty, both_typed, Verdict, gives, fails, unlisted, own, rule, provided, var_rule, lift_rule}
use Rattle.lambdamix.specs.Checker.{abstr_by, abstr_rule, apply_rule, fix_rule, if_rule, op_rule, abstr_dyn_rule, all_dynamic, dyn_rule, gather, check, check_all}
use Rattle.lambdamix.specs.Checker.{root_rule, checked_root, annotation_refusal}
use Rattle.lambdamix.specs.Fault.{parts, parts_among, HasType, has_type, AllTyped, all_typed, Unlisted, not_listed, AtFault, own_9, own_10, below}
use Rattle.lambdamix.specs.Fault.{FaultAmong}
use Rattle.lambdamix.proofs.Answers.{well, ill, given, OnTerm, OnParts, none_among, both_right, one_right, gather_right}
use Rattle.lambdamix.proofs.Tests.{T_true, true_T, and_intro, and_both}

-- `same_type` decides equality.
pub same_type_refl : (t : Ty) → same_type t t ≡ true
unfolding same_type
same_type_refl S = refl
same_type_refl D = refl
same_type_refl (t ⇒ u) = and_intro (same_type_refl t) (same_type_refl u)

pub same_type_sound : (t u : Ty) → same_type t u ≡ true → t ≡ u
unfolding same_type
same_type_sound S S e = refl
same_type_sound S D e = cc
same_type_sound S (u ⇒ v) e = cc
same_type_sound D S e = cc
same_type_sound D D e = refl
same_type_sound D (u ⇒ v) e = cc
same_type_sound (t ⇒ u) S e = cc
same_type_sound (t ⇒ u) D e = cc
same_type_sound (t ⇒ u) (v ⇒ w) e =
    let h = and_both (same_type t v) (same_type u w) e in
    rw (same_type_sound t v h.0, same_type_sound u w h.1)

-- Completeness: the checker gives every type that can be derived.
mutual
  unfolding check check_all rule own both_typed gather provided var_rule lift_rule abstr_by abstr_rule apply_rule fix_rule if_rule op_rule abstr_dyn_rule
      dyn_rule all_dynamic same_type

  pub complete : {s : Script} {Γ : Context} {e : Term} {t : Ty} → s ∣ Γ ⊢ e ∶ t → check s Γ e ≡ typed t
  complete Const = refl
  complete (Var e) = rw e
  complete (Lift d) = rw (complete d)
  complete {s} (Abstr {t} {u} e d l) = rw (e, complete d, T_true {b = listed s (t ⇒ u)} l)
  complete (Apply {t} d e) = rw (complete d, complete e, same_type_refl t)
  complete (Fix {t} {u} d) = rw (complete d, same_type_refl t, same_type_refl u)
  complete (If {t} d e f) = rw (complete d, complete e, complete f, same_type_refl t)
  complete (Op d e) = rw (complete d, complete e)
  complete (AbstrDyn d) = rw (complete d)
  complete (Dyn e d) = let h = complete_all d in rw (h.1, e, h.2)

  complete_all :
      {s : Script} {Γ : Context} {es : Terms} {k : ℕ} → AllDynamic s Γ es k →
      (ts : List Ty) × (check_all s Γ es ≡ typed ts) × (all_dynamic k ts ≡ true)
  complete_all nil_dyn = ([], refl, refl)
  complete_all (cons_dyn d ds) = let h = complete_all ds in (D ∷ h.0, rw (complete d, h.1), h.2)

-- A term has at most one type.
pub unique_type : {s : Script} {Γ : Context} {e : Term} {t u : Ty} → s ∣ Γ ⊢ e ∶ t → s ∣ Γ ⊢ e ∶ u → t ≡ u
unique_type d e = cc (complete d, complete e)

-- A function whose type is not listed is told.
unlisted_told :
    {s : Script} {Γ : Context} {e : Term} → Unlisted s Γ e → check s Γ e ≡ faulty (record { number = 10; place = node_of e })
unfolding check rule own abstr_rule abstr_by node_of
unlisted_told (not_listed d l) = rw (complete d, l)

-- a verdict of a step's own rule that the judgement bears out
data Follows (s : Script) (Γ : Context) (e : Term) : Verdict → Type 0 where
  derives : {t : Ty} → s ∣ Γ ⊢ e ∶ t → Follows s Γ e (gives t)
  refuses : Follows s Γ e fails
  lacks : Unlisted s Γ e → Follows s Γ e unlisted

module _ {s : Script} {Γ : Context} {e : Term} where
  typeless : {f : Refusal} → check s Γ e ≡ faulty f → ¬ HasType s Γ e
  typeless q (has_type d) = let z : ◌≡◌ {A = ℕ} 0 1 = cc (complete d) in omega arith

  unlisted_only :
      {f : Refusal} → check s Γ e ≡ faulty f → Unlisted s Γ e → f ≡ record { number = 10; place = node_of e }
  unlisted_only q u = cc (unlisted_told u)

  -- A fault is told rightly if it is the lowest of the parts', or the step's own where all parts have types.
  told_right :
      {f : Refusal} → check s Γ e ≡ faulty f → AtFault s Γ e f.number f.place →
      (AllTyped s (parts s Γ e) → f.place ≡ node_of e) → ((n i : ℕ) → FaultAmong s (parts s Γ e) n i → f.place ≤ i) →
      OnTerm s Γ e (check s Γ e)
  told_right {f} q a o l = rw q (ill (typeless q) (record { fault = a; lowest = low }))
    where
      low : (n i : ℕ) → AtFault s Γ e n i → f.place ≤ i
      low n i (own_9 p h w u) = omega (arith, o h)
      low n i (own_10 p u) = omega (arith, ap (λ (g : Refusal). g.place) (unlisted_only q u))
      low n i (below h) = l n i h

  -- A step whose parts have types and no fault: its own verdict decides.
  own_right :
      {v : Verdict} → check s Γ e ≡ own (node_of e) v → Follows s Γ e v → AllTyped s (parts s Γ e) →
      ((n i : ℕ) → ¬ FaultAmong s (parts s Γ e) n i) → OnTerm s Γ e (check s Γ e)
  unfolding own
  own_right q (derives d) h c = rw q (well d (has_type d) clean)
    where
      clean : (n i : ℕ) → ¬ AtFault s Γ e n i
      clean n i (own_9 p k w u) = w (has_type d)
      clean n i (own_10 p u) = typeless (unlisted_told u) (has_type d)
      clean n i (below k) = c n i k
  own_right q refuses h c =
      told_right q (own_9 refl h (typeless q) (λ u. omega (arith, ap (λ (g : Refusal). g.number) (unlisted_only q u))))
      (λ w. refl) (λ n i w. absurd (c n i w))
  own_right q (lacks u) h c = told_right q (own_10 refl u) (λ w. refl) (λ n i w. absurd (c n i w))

  -- Right answers on the parts, and a rule whose verdict follows, make a right answer on the step.
  rule_right :
      {A : Type 0} {P : A → Type 0} {x : Checked A} {r : A → Verdict} → check s Γ e ≡ rule (node_of e) r x →
      ((a : A) → P a → Follows s Γ e (r a)) → OnParts s (parts s Γ e) P x → OnTerm s Γ e (check s Γ e)
  unfolding rule
  rule_right q w (well {a} p h c) = own_right q (w a p) h c
  rule_right q w (ill h l) = told_right q (below l.fault) (λ k. absurd (h k)) l.lowest

-- The verdict of each rule follows, where the parts have the types that the rule is handed.
module _ {s : Script} {Γ : Context} {e : Term} where
  provided_follows : {t : Ty} (b : Bool) → (b ≡ true → s ∣ Γ ⊢ e ∶ t) → Follows s Γ e (provided b t)
  unfolding provided
  provided_follows true d = derives (d refl)
  provided_follows false d = refuses

  same_follows : {v : Ty} (t u : Ty) → (t ≡ u → s ∣ Γ ⊢ e ∶ v) → Follows s Γ e (provided (same_type t u) v)
  same_follows t u d = provided_follows (same_type t u) (λ h. d (same_type_sound t u h))

module _ {s : Script} {Γ : Context} {i : ℕ} where
  var_follows : {x : ℕ} (r : Option Ty) → type_at Γ x ≡ r → Follows s Γ (var i x) (var_rule r)
  unfolding var_rule
  var_follows none q = refuses
  var_follows (some t) q = derives (Var q)

  abstr_follows :
      {x p : ℕ} {e : Term} {u : Ty} → s ∣ bind x (type_of s p) Γ ⊢ e ∶ u → (b : Bool) → listed s (type_of s p ⇒ u) ≡ b →
      Follows s Γ (lam i x p e) (abstr_by b (type_of s p ⇒ u))
  unfolding abstr_by
  abstr_follows d true q = derives (Abstr refl d (true_T q))
  abstr_follows d false q = lacks (not_listed d q)

  apply_follows : {e f : Term} (t u : Ty) → s ∣ Γ ⊢ e ∶ t → s ∣ Γ ⊢ f ∶ u → Follows s Γ (app i e f) (apply_rule t u)
  unfolding apply_rule
  apply_follows S u d e = refuses
  apply_follows D u d e = refuses
  apply_follows (t ⇒ v) u d e = same_follows t u (λ h. Apply d (rw h e))

  fix_follows : {e : Term} (t : Ty) → s ∣ Γ ⊢ e ∶ t → Follows s Γ (fixed i e) (fix_rule t)
  unfolding fix_rule
  fix_follows S d = refuses
  fix_follows D d = refuses
  fix_follows (S ⇒ u) d = refuses
  fix_follows (D ⇒ u) d = refuses
  fix_follows ((t ⇒ u) ⇒ v) d = same_follows (t ⇒ u) v (λ h. Fix (rw (← h) at d))

  if_follows :
      {e f g : Term} {c t u : Ty} → s ∣ Γ ⊢ e ∶ c → s ∣ Γ ⊢ f ∶ t → s ∣ Γ ⊢ g ∶ u → Follows s Γ (cond i e f g) (if_rule c t u)
  unfolding if_rule
  if_follows {c} x y z =
      provided_follows _ λ h.
      let k = and_both (same_type c S) _ h in
      If (rw (same_type_sound c S k.0) at x) y (rw (same_type_sound _ _ k.1) z)

  op_follows :
      {o : Operator} {e f : Term} {t u : Ty} → s ∣ Γ ⊢ e ∶ t → s ∣ Γ ⊢ f ∶ u → Follows s Γ (op i o e f) (op_rule t u)
  unfolding op_rule
  op_follows {t} {u} x y =
      provided_follows _ λ h.
      let k = and_both (same_type t S) _ h in
      Op (rw (same_type_sound t S k.0) at x) (rw (same_type_sound u S k.1) at y)

module _ {s : Script} {Γ : Context} where
  all_nil : (k : ℕ) → all_dynamic k [] ≡ true → AllDynamic s Γ nil_t k
  unfolding all_dynamic
  all_nil zero h = nil_dyn
  all_nil (suc k) h = absurd (false≢true h)

  all_cons :
      {e : Term} {es : Terms} (c : Ty × List Ty) →
      (s ∣ Γ ⊢ e ∶ c.0) × ((k : ℕ) → all_dynamic k c.1 ≡ true → AllDynamic s Γ es k) → (k : ℕ) →
      all_dynamic k (c.0 ∷ c.1) ≡ true → AllDynamic s Γ (cons_t e es) k
  unfolding all_dynamic
  all_cons c d zero h = absurd (false≢true h)
  all_cons c d (suc k) h =
      let w = and_both (same_type c.0 D) (all_dynamic k c.1) h in
      cons_dyn (rw (same_type_sound c.0 D w.0) at d.0) (d.1 k w.1)

-- Every answer of the checker is right.
mutual
  unfolding check check_all rule own parts parts_among node_of lift_rule abstr_rule if_rule op_rule abstr_dyn_rule dyn_rule

  pub right_answer : (s : Script) (Γ : Context) (e : Term) → OnTerm s Γ e (check s Γ e)
  right_answer s Γ (const i z) = own_right refl (derives Const) all_typed none_among
  right_answer s Γ (var i x) = own_right refl (var_follows (type_at Γ x) refl) all_typed none_among
  right_answer s Γ (lifted i e) =
      rule_right refl (λ t d. same_follows t S (λ h. Lift (rw h at d))) (one_right (right_answer s Γ e))
  right_answer s Γ (lam i x p e) =
      rule_right refl (λ u d. abstr_follows d (listed s (type_of s p ⇒ u)) refl)
      (one_right (right_answer s (bind x (type_of s p) Γ) e))
  right_answer s Γ (app i e f) =
      rule_right refl (λ c d. apply_follows c.0 c.1 d.0 d.1)
      (both_right (right_answer s Γ e) (one_right (right_answer s Γ f)))
  right_answer s Γ (fixed i e) = rule_right refl fix_follows (one_right (right_answer s Γ e))
  right_answer s Γ (cond i e f g) =
      rule_right refl (λ c d. if_follows d.0 d.1.0 d.1.1)
      (both_right (right_answer s Γ e) (both_right (right_answer s Γ f) (one_right (right_answer s Γ g))))
  right_answer s Γ (op i o e f) =
      rule_right refl (λ c d. op_follows d.0 d.1)
      (both_right (right_answer s Γ e) (one_right (right_answer s Γ f)))
  right_answer s Γ (dlam i x e) =
      rule_right refl (λ t d. same_follows t D (λ h. AbstrDyn (rw h at d))) (one_right (right_answer s (bind x D Γ) e))
  right_answer s Γ (dyn i f es) =
      rule_right refl (λ ts d. provided_follows (all_dynamic (arity f) ts) (λ h. Dyn refl (d (arity f) h)))
      (right_answers s Γ es)

  right_answers :
      (s : Script) (Γ : Context) (es : Terms) →
      OnParts s (parts_among Γ es) (λ ts. (k : ℕ) → all_dynamic k ts ≡ true → AllDynamic s Γ es k) (check_all s Γ es)
  right_answers s Γ nil_t = well all_nil all_typed none_among
  right_answers s Γ (cons_t e es) = gather_right all_cons (both_right (right_answer s Γ e) (right_answers s Γ es))

-- Soundness: a type that the checker gives can be derived.
pub sound : {s : Script} {Γ : Context} {e : Term} {t : Ty} → check s Γ e ≡ typed t → s ∣ Γ ⊢ e ∶ t
sound {s} {Γ} {e} q = (given (right_answer s Γ e) q).0

-- The checker accepts exactly when the published rules, with the types that the script lists, make the root late (dynamic).
pub checker_accepts : (s : Script) → annotation_refusal s ≡ none ↔ (s ∣ input_context s ⊢ tree s (root s) ∶ D)
unfolding annotation_refusal checked_root root_rule
checker_accepts s = (λ q. sound (go (checked_root s) q), λ d. rw (complete d))
  where
    go : (x : Checked Ty) → root_rule (root s) x ≡ none → x ≡ typed D
    go (typed S) q = cc
    go (typed D) q = refl
    go (typed (t ⇒ u)) q = cc
    go (faulty f) q = cc
