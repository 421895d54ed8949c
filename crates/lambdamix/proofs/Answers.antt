-- When an answer of the checker is right, and how right answers are combined. Assumes nothing.
use Prim.Native.Nat.{ℕ, ◌≤◌}
use mathlib.Core.Path.{◌≡◌, refl}
use mathlib.Core.Bool.{Bool, true, false}
use mathlib.Core.List.{List, [], ◌∷◌}
use native.Mathlib.Omega.{arith}
use lib.Dec.{leb}
use borrow.Author.Tests.{leb-true, leb-false}
use Rattle.lambdamix.specs.Script.{Script}
use Rattle.lambdamix.specs.Term.{Term}
use Rattle.lambdamix.specs.Types.{Ty}
use Rattle.lambdamix.specs.Typing.{Context, ◌∣◌⊢◌∶◌}
use Rattle.lambdamix.specs.Refusal.{Refusal}
use Rattle.lambdamix.specs.Checker.{Checked, typed, faulty, lower, lower_by, both_typed, gather}
use Rattle.lambdamix.specs.Fault.{Part, HasType, AllTyped, all_typed, and_typed, AtFault, FaultAmong, here, there, Lowest}

-- A right answer: either what it gives is as P asks, there are types and there is no fault; or it tells the lowest fault, and
-- there are not types for all.
pub data Right {A : Type 0} (Types : Type 0) (Faults : ℕ → ℕ → Type 0) (P : A → Type 0) : Checked A → Type 0 where
  well : {a : A} → P a → Types → ((n i : ℕ) → ¬ Faults n i) → Right Types Faults P (typed a)
  ill : {f : Refusal} → ¬ Types → Lowest Faults f → Right Types Faults P (faulty f)

module _ {A Types : Type 0} {Faults : ℕ → ℕ → Type 0} {P : A → Type 0} where
  pub given : {x : Checked A} {a : A} → Right Types Faults P x → x ≡ typed a → P a × ((n i : ℕ) → ¬ Faults n i)
  given {a} (well {a = b} p h c) q = let e : b ≡ a = cc in (rw e at p, c)
  given (ill h l) q = let z : ◌≡◌ {A = ℕ} 0 1 = cc in absurd (omega arith)

  pub told : {x : Checked A} {f : Refusal} → Right Types Faults P x → x ≡ faulty f → Lowest Faults f
  told (well p h c) q = let z : ◌≡◌ {A = ℕ} 0 1 = cc in absurd (omega arith)
  told {f} (ill {f = g} h l) q = let e : g ≡ f = cc in rw e at l

-- a right answer on one term, and on several
abbrev pub OnTerm : Script → Context → Term → Checked Ty → Type 0
OnTerm s Γ e = Right (HasType s Γ e) (AtFault s Γ e) (λ t. s ∣ Γ ⊢ e ∶ t)

abbrev pub OnParts : {A : Type 0} → Script → List Part → (A → Type 0) → Checked A → Type 0
OnParts s ps P = Right (AllTyped s ps) (FaultAmong s ps) P

pub none_among : {s : Script} (n i : ℕ) → ¬ FaultAmong s [] n i
none_among n i h = elim h [ ]

module _ {s : Script} {p : Part} {ps : List Part} where
  first_typed : AllTyped s (p ∷ ps) → HasType s p.context p.term
  first_typed (and_typed h hs) = h

  rest_typed : AllTyped s (p ∷ ps) → AllTyped s ps
  rest_typed (and_typed h hs) = hs

  -- A fault of several parts is one of the first or one of the rest.
  among :
      {n i : ℕ} {C : Type 0} → (AtFault s p.context p.term n i → C) → (FaultAmong s ps n i → C) →
      FaultAmong s (p ∷ ps) n i → C
  among f g (here h) = f h
  among f g (there h) = g h

  -- The lowest fault of the first part, or of the rest, is the lowest of all if the others are not lower.
  first_lowest :
      {f : Refusal} → Lowest (AtFault s p.context p.term) f → ((n i : ℕ) → FaultAmong s ps n i → f.place ≤ i) →
      Lowest (FaultAmong s (p ∷ ps)) f
  first_lowest l o = record { fault = here l.fault; lowest = λ n i. among (l.lowest n i) (o n i) }

  rest_lowest :
      {f : Refusal} → Lowest (FaultAmong s ps) f → ((n i : ℕ) → AtFault s p.context p.term n i → f.place ≤ i) →
      Lowest (FaultAmong s (p ∷ ps)) f
  rest_lowest l o = record { fault = there l.fault; lowest = λ n i. among (o n i) (l.lowest n i) }

  lower_lowest :
      {e f : Refusal} → Lowest (AtFault s p.context p.term) e → Lowest (FaultAmong s ps) f →
      Lowest (FaultAmong s (p ∷ ps)) (lower e f)
  unfolding lower lower_by
  lower_lowest {e} {f} l m = go (leb e.place f.place) refl
    where
      go : (b : Bool) → leb e.place f.place ≡ b → Lowest (FaultAmong s (p ∷ ps)) (lower_by b e f)
      go true q = first_lowest l (λ n i w. omega (arith, leb-true e.place f.place q, m.lowest n i w))
      go false q = rest_lowest m (λ n i w. omega (arith, leb-false e.place f.place q, l.lowest n i w))

  -- Right answers on the first part and on the rest make a right answer on all.
  pub both_right :
      {B : Type 0} {Q : B → Type 0} {x : Checked Ty} {y : Checked B} → OnTerm s p.context p.term x → OnParts s ps Q y →
      OnParts s (p ∷ ps) (λ c. (s ∣ p.context ⊢ p.term ∶ c.0) × Q c.1) (both_typed x y)
  unfolding both_typed
  both_right (well a h c) (well b k d) = well (a, b) (and_typed h k) (λ n i. among (c n i) (d n i))
  both_right (well a h c) (ill k m) = ill (λ w. k (rest_typed w)) (rest_lowest m (λ n i w. absurd (c n i w)))
  both_right (ill h l) (well b k d) = ill (λ w. h (first_typed w)) (first_lowest l (λ n i w. absurd (d n i w)))
  both_right (ill h l) (ill k m) = ill (λ w. h (first_typed w)) (lower_lowest l m)

pub one_right :
    {s : Script} {p : Part} {x : Checked Ty} → OnTerm s p.context p.term x →
    OnParts s (p ∷ []) (λ t. s ∣ p.context ⊢ p.term ∶ t) x
one_right (well d h c) = well d (and_typed h all_typed) (λ n i. among (c n i) (none_among n i))
one_right (ill h l) = ill (λ w. h (first_typed w)) (first_lowest l (λ n i w. absurd (none_among n i w)))

pub gather_right :
    {s : Script} {ps : List Part} {P : Ty × List Ty → Type 0} {Q : List Ty → Type 0} {x : Checked (Ty × List Ty)} →
    ((c : Ty × List Ty) → P c → Q (c.0 ∷ c.1)) → OnParts s ps P x → OnParts s ps Q (gather x)
unfolding gather
gather_right f (well {a} p h c) = well (f a p) h c
gather_right f (ill h l) = ill h l
