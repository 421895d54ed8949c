-- Which nodes a walk from the root reaches: each node, if children stand below their parents and no node is unused.
-- So the walk's lowest place that fails is the lowest of all nodes. Assumes nothing.
use Prim.Native.Nat.{ℕ, zero, suc, ◌+◌, ◌-◌, ◌≤◌, ◌<◌}
use mathlib.Core.Path.{◌≡◌, refl, sym, subst}
use mathlib.Core.Bool.{true, false}
use mathlib.Core.Option.{none}
use mathlib.Core.Logic.{◌⊎◌, inl, inr, ⊎_elim}
use native.Mathlib.Omega.{arith}
use native.Mathlib.Nat.{eq-or-lt_of_le, le_refl}
use lib.Dec.{leb}
use Rattle.lambdamix.specs.Limits.{max_height}
use Rattle.lambdamix.specs.Falling.{below}
use Rattle.lambdamix.specs.Refusal.{first_failing}
use Rattle.lambdamix.specs.Structure.{occurrences, member}
use Rattle.lambdamix.proofs.Falling.{below_at, falling_step}
use Rattle.lambdamix.proofs.Structure.{occurs_member}
use Rattle.script.specs.Words.{Columns}
use Rattle.walks.specs.Walks.{children_at, uses_below, height_at, too_high_step, too_high_at}
use Rattle.walks.proofs.Lowest.{Lowest, lowest_one, lowest_of, lowest_both, lowest_own, lowest_failing, lowest_gathered}

-- j is a child of i
abbrev pub IsChildOf : Columns → ℕ → ℕ → Type 0
IsChildOf x i j = member j (children_at x i) ≡ true

-- a walk from r reaches j
pub data Reached (x : Columns) (r : ℕ) : ℕ → Type 0 where
  here : Reached x r r
  further : {i j : ℕ} → Reached x r i → IsChildOf x i j → Reached x r j

-- what is reached from a child is reached from its parent
through : {x : Columns} {r m j : ℕ} → IsChildOf x r m → Reached x m j → Reached x r j
through c here = further here c
through c (further p d) = further (through c p) d

-- what is reached is the start, or is reached from one of its children
split : {x : Columns} {r j : ℕ} → Reached x r j → (j ≡ r) ⊎ ((m : ℕ) × IsChildOf x r m × Reached x m j)
split here = inl refl
split {x} {r} (further {i} {j} p d) =
    ⊎_elim (λ e. inr (j, subst (λ (k : ℕ). IsChildOf x k j) e d, here)) (λ u. inr (u.0, u.1, further u.2 d)) (split p)

-- a node that is used has a parent
user : (x : Columns) (n j : ℕ) → 0 < uses_below x n j → (i : ℕ) × (i < n) × IsChildOf x i j
unfolding uses_below
user x zero j h = let z : ⊥ = omega arith in absurd z
user x (suc n) j h = go (occurrences j (children_at x n)) refl (user x n j)
  where
    go : (k : ℕ) → occurrences j (children_at x n) ≡ k
        → (0 < uses_below x n j → (i : ℕ) × (i < n) × IsChildOf x i j) → (i : ℕ) × (i < suc n) × IsChildOf x i j
    go zero e f = let u = f (omega (arith, e, h)) in (u.0, omega (arith, u.1), u.2)
    go (suc k) e f = (n, omega arith, occurs_member j (children_at x n) (omega (arith, e)))

module _ (x : Columns) (n : ℕ) (falls : (i j : ℕ) → i < n → IsChildOf x i j → j < i) where
  -- Each node is reached from the root, if each but the root is used at one place.
  pub every_node_reached : ((j : ℕ) → j < n - 1 → uses_below x n j ≡ 1) → (j : ℕ) → j < n → Reached x (n - 1) j
  every_node_reached once j h = go n j h (omega arith)
    where
      go : (g j : ℕ) → j < n → n ≤ j + g → Reached x (n - 1) j
      go zero j h l = let z : ⊥ = omega arith in absurd z
      go (suc g) j h l =
          ⊎_elim (λ e. subst (Reached x (n - 1)) (sym e) here)
          (λ k. let u = user x n j (omega (arith, once j k)) in
          further (go g u.0 u.1 (omega (arith, falls u.0 j u.1 u.2))) u.2)
          (eq-or-lt_of_le (omega arith))

  TooHigh : ℕ → ℕ → Type 0
  TooHigh i j = Reached x i j × (leb (height_at x j) max_height ≡ false)

  -- the walk finds the lowest node of a tree that is too high
  walk_lowest : (g i : ℕ) → i < g → i < n → Lowest (TooHigh i) (too_high_at x i)
  unfolding too_high_at too_high_step TooHigh
  walk_lowest zero i h l = let z : ⊥ = omega arith in absurd z
  walk_lowest (suc g) i h l =
      rw (falling_step none (too_high_step x) i)
      (lowest_of to from (lowest_both (lowest_own (leb (height_at x i) max_height) i)
      (lowest_gathered TooHigh (below i none (too_high_at x)) (children_at x i)
      (λ m c. rw (below_at i none (too_high_at x) m (falls i m l c)) (walk_lowest g m (omega (arith, falls i m l c)) (omega (arith, falls i m l c)))))))
    where
      to : (j : ℕ) → ((j ≡ i) × (leb (height_at x i) max_height ≡ false)) ⊎ ((m : ℕ) × IsChildOf x i m × TooHigh m j) → TooHigh i j
      to j u = ⊎_elim (λ v. (subst (Reached x i) (sym v.0) here, rw v.0 v.1)) (λ v. (through v.1 v.2.0, v.2.1)) u

      from : (j : ℕ) → TooHigh i j → ((j ≡ i) × (leb (height_at x i) max_height ≡ false)) ⊎ ((m : ℕ) × IsChildOf x i m × TooHigh m j)
      from j u = ⊎_elim (λ e. inl (e, rw e at u.1)) (λ v. inr (v.0, v.1, (v.2, u.1))) (split u.0)

  -- what is reached stands no higher than where the walk began
  reached_below : {r j : ℕ} → r < n → Reached x r j → j ≤ r
  reached_below l here = le_refl _
  reached_below l (further p c) = let k = reached_below l p in omega (arith, falls _ _ (omega arith) c)

  -- So the walk from the root finds the lowest of all nodes that are too high.
  pub walk_finds_lowest :
      1 ≤ n → ((j : ℕ) → j < n - 1 → uses_below x n j ≡ 1)
      → too_high_at x (n - 1) ≡ first_failing (λ j. leb (height_at x j) max_height) 0 n
  unfolding TooHigh
  walk_finds_lowest h once =
      lowest_one (walk_lowest n (n - 1) (omega arith) (omega arith))
      (lowest_of (λ j u. (every_node_reached once j (omega (arith, u.1.0)), u.1.1))
      (λ j u. (omega arith, (omega (arith, reached_below (omega arith) u.0), u.1)))
      (lowest_failing (λ j. leb (height_at x j) max_height) 0 n))
