-- The checker tells the lowest fault of a term, in the sense of specs/Fault.antt, and what that says of a script's refusals 9,
-- 10 and 11. Assumes nothing.
use Prim.Native.Nat.{ℕ}
use mathlib.Core.Path.{◌≡◌, refl}
use mathlib.Core.List.{List}
use mathlib.Core.Option.{some}
use mathlib.Core.Logic.{◌↔◌, ◌≢◌, ◌⊎◌, inl, inr, ⊎_elim}
use native.Mathlib.Omega.{arith}
use Rattle.lambdamix.specs.Script.{Script, root}
use Rattle.lambdamix.specs.Term.{Term, tree}
use Rattle.lambdamix.specs.Types.{Ty, S, D, ◌⇒◌}
use Rattle.lambdamix.specs.Typing.{Context, input_context, ◌∣◌⊢◌∶◌}
use Rattle.lambdamix.specs.Refusal.{Refusal}
use Rattle.lambdamix.specs.Checker.{Checked, typed, faulty, check, root_rule, checked_root, annotation_refusal}
use Rattle.lambdamix.specs.Fault.{Part, AtFault, own_9, own_10, below, FaultAmong, here, there, Lowest}
use Rattle.lambdamix.proofs.Answers.{given, told}
use Rattle.lambdamix.proofs.Checking.{complete, sound, right_answer}

-- If the checker tells a fault then it is one of the term's, and the lowest; if it gives a type then the term has no fault.
pub lowest_fault :
    (s : Script) (Γ : Context) (e : Term) →
    ((f : Refusal) → check s Γ e ≡ faulty f → Lowest (AtFault s Γ e) f)
    × ((t : Ty) → check s Γ e ≡ typed t → (n i : ℕ) → ¬ AtFault s Γ e n i)
lowest_fault s Γ e = (λ f q. told (right_answer s Γ e) q, λ t q. (given (right_answer s Γ e) q).1)

-- No fault has the number 11.
mutual
  not_11 : {s : Script} {Γ : Context} {e : Term} {n i : ℕ} → AtFault s Γ e n i → n ≢ 11
  not_11 (own_9 p h w u) = omega arith
  not_11 (own_10 p u) = omega arith
  not_11 (below h) = none_11 h

  none_11 : {s : Script} {ps : List Part} {n i : ℕ} → FaultAmong s ps n i → n ≢ 11
  none_11 (here h) = not_11 h
  none_11 (there h) = none_11 h

-- "11: the root isn't D [root]"
abbrev pub root_refusal : Script → Refusal
root_refusal s = record { number = 11; place = root s }

module _ (s : Script) where
  refused_cases :
      {f : Refusal} (x : Checked Ty) → root_rule (root s) x ≡ some f →
      (x ≡ faulty f) ⊎ ((f ≡ root_refusal s) × (t : Ty) × (x ≡ typed t) × (t ≢ D))
  unfolding root_rule
  refused_cases (typed S) q = inr (cc, S, refl, λ w. let z : ◌≡◌ {A = ℕ} 0 1 = cc in omega arith)
  refused_cases (typed D) q = inl cc
  refused_cases (typed (t ⇒ u)) q = inr (cc, t ⇒ u, refl, λ w. let z : ◌≡◌ {A = ℕ} 0 1 = cc in omega arith)
  refused_cases (faulty g) q = inl cc

  root_refused : (t : Ty) → t ≢ D → root_rule (root s) (typed t) ≡ some (root_refusal s)
  unfolding root_rule
  root_refused S h = refl
  root_refused D h = absurd (h refl)
  root_refused (t ⇒ u) h = refl

  tree_fault : {f : Refusal} → checked_root s ≡ faulty f → Lowest (AtFault s (input_context s) (tree s (root s))) f
  unfolding checked_root
  tree_fault {f} q = (lowest_fault s (input_context s) (tree s (root s))).0 f q

  -- Every refusal but 11 at the root is the lowest fault of the script's tree.
  pub script_fault :
      (f : Refusal) → annotation_refusal s ≡ some f → f ≢ root_refusal s → Lowest (AtFault s (input_context s) (tree s (root s))) f
  unfolding annotation_refusal
  script_fault f q h = ⊎_elim tree_fault (λ w. absurd (h w.0)) (refused_cases (checked_root s) q)

  -- 11 at the root is told exactly when the root has a type other than D.
  pub root_not_dynamic :
      annotation_refusal s ≡ some (root_refusal s) ↔ ((t : Ty) × (s ∣ input_context s ⊢ tree s (root s) ∶ t) × (t ≢ D))
  unfolding annotation_refusal checked_root
  root_not_dynamic = (
    λ q.
        ⊎_elim (λ p. absurd (not_11 (tree_fault p).fault refl)) (λ w. (w.1, sound w.2, w.3))
        (refused_cases (checked_root s) q),
    λ w. rw (complete w.1) (root_refused w.0 w.2),
  )
