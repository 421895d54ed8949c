-- The words of the listed types and the inputs at the bottom of the stack, place by place. Assumes nothing.
use Prim.Native.Nat.{ℕ, ◌+◌, ◌-◌, ◌≤◌, ◌<◌}
use mathlib.Core.Path.{◌≡◌, refl, ◌∙◌, ap}
use mathlib.Core.List.{List}
use mathlib.Core.Logic.{⊎_elim}
use native.Mathlib.Omega.{arith}
use native.Mathlib.Nat.{eq-or-lt_of_le}
use lib.ListN.{length, get_or, set, replicate, length-set, length-replicate, get_or-replicate}
use lib.Seq.{get_or-set_same, get_or-set_other}
use Rattle.lambdamix.specs.Limits.{max_types}
use Rattle.annotation.specs.Walks.{Pair, Lists, Bottom, unlisted}

-- the first j places hold their types' words, and the others are as before
pub record Packing (ps rs before types : List ℕ) (j : ℕ) : Type 0 where
  pub same : length types ≡ length before
  pub done : (k : ℕ) → k < j → k < length before → Pair (get_or types k 0) (get_or ps k 0) (get_or rs k 0)
  pub rest : (k : ℕ) → j ≤ k → get_or types k 0 ≡ get_or before k 0

module _ {ps rs before : List ℕ} where
  pub none_packed : Packing ps rs before before 0
  none_packed = record { same = refl; done = λ k h. let z : ⊥ = omega arith in absurd z; rest = λ k h. refl }

  pub one_packed :
      {types : List ℕ} {j w a b : ℕ} → Packing ps rs before types j → Pair w a b → a ≡ get_or ps j 0 → b ≡ get_or rs j 0 →
      Packing ps rs before (set types j w) (j + 1)
  one_packed {types} {j} {w} p q e f =
      record {
        same = simp length-set p.same;
        done = λ k h l.
            ⊎_elim (λ (z : k ≡ j). rw (z, get_or-set_same types j w 0 (omega (arith, p.same)), ← e, ← f) q)
            (λ (z : k < j). rw (get_or-set_other types j k w 0 (omega arith)) (p.done k z l)) (eq-or-lt_of_le {n = k} {m = j} (omega arith));
        rest = λ k h. get_or-set_other types j k w 0 (omega arith) ∙ p.rest k (omega arith);
      }

  pub all_packed :
      {types : List ℕ} {n : ℕ} → Packing ps rs before types n → before ≡ replicate max_types unlisted → n ≤ max_types →
      Lists n (λ j. get_or ps j 0) (λ j. get_or rs j 0) types
  all_packed {types} p e l =
      let c : length before ≡ max_types = ap length e ∙ length-replicate {A = ℕ} max_types unlisted in
      record {
        each = λ j h. p.done j h (omega arith);
        past = λ j h m. p.rest j h ∙ rw (e, get_or-replicate {A = ℕ} max_types j unlisted 0 m);
        room = omega (arith, p.same);
      }

-- the first j of n inputs are bound
pub record Binding (n : ℕ) (is before stack : List ℕ) (j : ℕ) : Type 0 where
  pub same : length stack ≡ length before
  pub done : (k : ℕ) → k < j → n ≤ length before → Pair (get_or stack (n - 1 - k) 0) (get_or is k 0) k

module _ {n : ℕ} {is before : List ℕ} where
  pub none_bound : Binding n is before before 0
  none_bound = record { same = refl; done = λ k h. let z : ⊥ = omega arith in absurd z }

  pub one_bound :
      {stack : List ℕ} {j w b : ℕ} → Binding n is before stack j → j < n → Pair w b j → b ≡ get_or is j 0 →
      Binding n is before (set stack (n - 1 - j) w) (j + 1)
  one_bound {stack} {j} {w} p h q e =
      record {
        same = simp length-set p.same;
        done = λ k l m.
            ⊎_elim (λ (z : k ≡ j). rw (z, get_or-set_same stack (n - 1 - j) w 0 (omega (arith, p.same)), ← e) q)
            (λ (z : k < j). rw (get_or-set_other stack (n - 1 - j) (n - 1 - k) w 0 (omega arith)) (p.done k z m)) (eq-or-lt_of_le {n = k} {m = j} (omega arith));
      }

  pub all_bound : {stack : List ℕ} → Binding n is before stack n → n ≤ length before → Bottom n is stack
  all_bound p l = record { each = λ j h. p.done j h l }
