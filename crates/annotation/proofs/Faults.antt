-- A fault among the children's answers goes first, the lowest of several. Assumes nothing.
use Prim.Native.Nat.{ℕ, ◌/◌, ◌≤◌, ◌<◌}
use mathlib.Core.Path.{◌≡◌, refl, ◌∙◌, sym, ap}
use mathlib.Core.Bool.{Bool, true, false}
use mathlib.Core.Logic.{⊎_elim}
use mathlib.Core.List.{List}
use native.Mathlib.Omega.{arith}
use lib.Dec.{leb, ltb}
use borrow.Author.Tests.{lt-ltb, le-ltb, ltb-true, ltb-false, le-leb, lt-leb, leb-true, leb-false}
use Rattle.lambdamix.specs.Script.{Script}
use Rattle.lambdamix.specs.Types.{Ty, type_of}
use Rattle.lambdamix.specs.Checker.{Checked, typed, faulty, lower_by, lower, both_typed, Verdict, rule, gather}
use Rattle.lambdamix.proofs.Tests.{holds_or_fails}
use Rattle.annotation.specs.AnswerWords.{pick, fault_limit, refusal_in, type_base, type_in, meaning, AnswersFor, lowest}

-- some answer that is no fault
pub data Right {A : Type 0} : Checked A → Type 0 where
  right : (a : A) → Right (typed a)

-- the answer m tells the fault of x, if there is one
pub record TellsFault {A : Type 0} (m : ℕ) (x : Checked A) : Type 0 where
  pub fault : m < type_base → x ≡ faulty (refusal_in m)
  pub no_fault : type_base ≤ m → Right x

pub answer_fault : {s : Script} {e : ℕ} {x : Checked Ty} → AnswersFor s e x → TellsFault e x
unfolding meaning
answer_fault {s} {e} {x} p =
    record {
      fault = λ h. sym p.said ∙ rw (lt-ltb e type_base h);
      no_fault = λ h. rw (← p.said, le-ltb e type_base h) (right (type_of s _));
    }

-- what an answer that is no fault stands for
pub typed_answer :
    {s : Script} {e : ℕ} {x : Checked Ty} → AnswersFor s e x → type_base ≤ e → x ≡ typed (type_of s (type_in e))
unfolding meaning
typed_answer {s} {e} p h = sym p.said ∙ rw (le-ltb e type_base h)

module _ {A : Type 0} {m : ℕ} {x : Checked A} (p : TellsFault m x) where
  pub fault_alone : {B : Type 0} (b : B) → TellsFault m (both_typed x (typed b))
  unfolding both_typed
  fault_alone b =
      record {
        fault = λ h. rw (p.fault h);
        no_fault = λ h. elim (p.no_fault h) as (λ y _. Right (both_typed y (typed b))) [ right a ↦ right (a, b) ];
      }

pub fault_gathered : {m : ℕ} {x : Checked (Ty × List Ty)} → TellsFault m x → TellsFault m (gather x)
unfolding gather
fault_gathered p =
    record {
      fault = λ h. rw (p.fault h);
      no_fault = λ h. elim (p.no_fault h) as (λ y _. Right (gather y)) [ right a ↦ right _ ];
    }

-- the lowest of two answers, by their nodes
pub lowest_first : (e f : ℕ) → e / fault_limit ≤ f / fault_limit → e ≡ lowest e f
unfolding lowest
lowest_first e f h = rw (le-leb (e / fault_limit) (f / fault_limit) h)

pub lowest_second : (e f : ℕ) → f / fault_limit < e / fault_limit → f ≡ lowest e f
unfolding lowest
lowest_second e f h = rw (lt-leb (e / fault_limit) (f / fault_limit) h)

-- an answer that is no fault, behind another or before it, tells nothing
module _ {A : Type 0} {m n : ℕ} {x : Checked A} (p : TellsFault m x) (h : type_base ≤ n) where
  nothing_more : n / fault_limit ≤ m / fault_limit → TellsFault n x
  nothing_more l = record { fault = λ k. let z : ⊥ = omega arith in absurd z; no_fault = λ _. p.no_fault (omega arith) }

  pub fault_then_type : TellsFault (lowest m n) x
  unfolding lowest
  fault_then_type =
      ⊎_elim (λ b. rw b p) (λ b. let l = leb-false (m / fault_limit) (n / fault_limit) b in rw b (nothing_more (omega arith)))
      (holds_or_fails (leb (m / fault_limit) (n / fault_limit)))

  pub type_then_fault : TellsFault (lowest n m) x
  unfolding lowest
  type_then_fault =
      ⊎_elim (λ b. rw b (nothing_more (leb-true (n / fault_limit) (m / fault_limit) b))) (λ b. rw b p)
      (holds_or_fails (leb (n / fault_limit) (m / fault_limit)))

-- of two faults the one at the lower node
lower_place :
    (b : Bool) (e f : ℕ) → lower_by b (refusal_in e) (refusal_in f) ≡ refusal_in (pick b e f)
unfolding lower_by
lower_place true e f = refl
lower_place false e f = refl

one_of : (P : ℕ → Type 0) (b : Bool) (e f : ℕ) → P e → P f → P (pick b e f)
one_of P true e f p q = p
one_of P false e f p q = q

module _ {A B : Type 0} {e f : ℕ} {x : Checked A} {y : Checked B} (p : TellsFault e x) (q : TellsFault f y) where
  two_faults : e < type_base → f < type_base → TellsFault (lowest e f) (both_typed x y)
  unfolding lowest both_typed lower
  two_faults h k =
      let l : lowest e f < type_base = one_of (λ m. m < type_base) (leb (e / fault_limit) (f / fault_limit)) e f h k in
      record {
        fault = λ _. rw (p.fault h, q.fault k) (ap faulty (lower_place _ e f));
        no_fault = λ m. let z : ⊥ = omega arith in absurd z;
      }

  first_fault : e < type_base → type_base ≤ f → TellsFault (lowest e f) (both_typed x y)
  unfolding lowest both_typed
  first_fault h k =
      elim (q.no_fault k) as (λ z _. TellsFault (lowest e f) (both_typed x z)) [
        | right b ↦ rw (le-leb (e / fault_limit) (f / fault_limit) (omega arith)) (record {
          fault = λ _. rw (p.fault h);
          no_fault = λ m. let
              z : ⊥ = omega arith in absurd z;
        })
      ]

  second_fault : type_base ≤ e → f < type_base → TellsFault (lowest e f) (both_typed x y)
  unfolding lowest both_typed
  second_fault h k =
      elim (p.no_fault h) as (λ z _. TellsFault (lowest e f) (both_typed z y)) [
        | right a ↦ rw (lt-leb (e / fault_limit) (f / fault_limit) (omega arith)) (record {
          fault = λ _. rw (q.fault k);
          no_fault = λ m. let
              z : ⊥ = omega arith in absurd z;
        })
      ]

  no_faults : type_base ≤ e → type_base ≤ f → TellsFault (lowest e f) (both_typed x y)
  unfolding lowest both_typed
  no_faults h k =
      let l : type_base ≤ lowest e f = one_of (λ m. type_base ≤ m) (leb (e / fault_limit) (f / fault_limit)) e f h k in
      elim (p.no_fault h) as (λ z _. TellsFault (lowest e f) (both_typed z y)) [
        | right a ↦ elim (q.no_fault k) as (λ z _. TellsFault (lowest e f) (both_typed (typed a) z)) [
          | right b ↦ record { fault = λ m. let z : ⊥ = omega arith in absurd z; no_fault = λ _. right (a, b) }
        ]
      ]

  -- Theorem: the lowest of two answers tells the fault of both.
  pub fault_of_both : TellsFault (lowest e f) (both_typed x y)
  fault_of_both =
      ⊎_elim
      (λ a. ⊎_elim (λ b. two_faults (ltb-true _ _ a) (ltb-true _ _ b)) (λ b. first_fault (ltb-true _ _ a) (ltb-false _ _ b)) (holds_or_fails (ltb f type_base)))
      (λ a. ⊎_elim (λ b. second_fault (ltb-false _ _ a) (ltb-true _ _ b)) (λ b. no_faults (ltb-false _ _ a) (ltb-false _ _ b))
      (holds_or_fails (ltb f type_base)))
      (holds_or_fails (ltb e type_base))

-- where the lowest of two answers is no fault, none is
pub both_types : (e f : ℕ) → type_base ≤ lowest e f → (type_base ≤ e) × (type_base ≤ f)
unfolding lowest
both_types e f h =
    ⊎_elim (λ b. let w : type_base ≤ e = rw b at h in let v = leb-true (e / fault_limit) (f / fault_limit) b in (w, omega arith))
    (λ b. let w : type_base ≤ f = rw b at h in let v = leb-false (e / fault_limit) (f / fault_limit) b in (omega arith, w)) (holds_or_fails
    (leb (e / fault_limit) (f / fault_limit)))

-- a fault goes before the node's own rule
pub fault_before_rule :
    (s : Script) (i : ℕ) {A : Type 0} (R : A → Verdict) {m : ℕ} {x : Checked A} → TellsFault m x → m < type_base → AnswersFor s m (rule i R x)
unfolding meaning rule
fault_before_rule s i R {m} p h =
    rw (p.fault h) (record { said = rw (lt-ltb m type_base h); known = λ l. let z : ⊥ = omega arith in absurd z })
