-- Recursion on falling numbers unfolds one step at a time: the amount that bounds it never shows. Assumes nothing.
use Prim.Native.Nat.{ℕ, zero, suc, ◌≤◌, ◌<◌}
use mathlib.Core.Path.{◌≡◌, refl, ap, fun_ext}
use mathlib.Core.Bool.{Bool, true, false}
use native.Mathlib.Omega.{arith}
use lib.Dec.{ltb}
use borrow.Author.Tests.{ltb-true, lt-ltb, le-ltb}
use Rattle.lambdamix.specs.Falling.{guarded, below, falling_by, falling}

-- below n the answers of two functions are what counts
guarded_same :
    {A : Type 0} (b : Bool) (d : A) (f g : ℕ → A) (m : ℕ) → (b ≡ true → f m ≡ g m) → guarded b d f m ≡ guarded b d g m
unfolding guarded
guarded_same true d f g m h = h refl
guarded_same false d f g m h = refl

pub below_same : {A : Type 0} (n : ℕ) (d : A) (f g : ℕ → A) → ((m : ℕ) → m < n → f m ≡ g m) → below n d f ≡ below n d g
unfolding below
below_same n d f g h = fun_ext (λ m. guarded_same (ltb m n) d f g m (λ e. h m (ltb-true m n e)))

pub below_at : {A : Type 0} (n : ℕ) (d : A) (f : ℕ → A) (m : ℕ) → m < n → below n d f m ≡ f m
unfolding below guarded
below_at n d f m h = rw (lt-ltb m n h)

-- a number that is not below gets the default
pub below_out : {A : Type 0} (n : ℕ) (d : A) (f : ℕ → A) (m : ℕ) → n ≤ m → below n d f m ≡ d
unfolding below guarded
below_out n d f m h = rw (le-ltb m n h)

enough :
    {A : Type 0} (d : A) (f : (ℕ → A) → ℕ → A) (g h n : ℕ) → n < g → n < h → falling_by d f g n ≡ falling_by d f h n
unfolding falling_by
enough d f zero h n p q = let z : ⊥ = omega arith in absurd z
enough d f (suc g) zero n p q = let z : ⊥ = omega arith in absurd z
enough d f (suc g) (suc h) n p q =
    ap (λ s. f s n) (below_same n d (falling_by d f g) (falling_by d f h) (λ m r. enough d f g h m (omega arith) (omega arith)))

-- One step: the answer at n is the step's, handed the answers below n.
pub falling_step : {A : Type 0} (d : A) (f : (ℕ → A) → ℕ → A) (n : ℕ) → falling d f n ≡ f (below n d (falling d f)) n
unfolding falling falling_by
falling_step d f n =
    ap (λ s. f s n) (below_same n d (falling_by d f n) (falling d f) (λ m r. enough d f n (suc m) m r (omega arith)))

falling_by_keeps :
    {A : Type 0} (P : A → Type 0) (d : A) (f : (ℕ → A) → ℕ → A) → P d →
    ((self : ℕ → A) → ((m : ℕ) → P (self m)) → (n : ℕ) → P (f self n)) → (g n : ℕ) → P (falling_by d f g n)
unfolding falling_by below guarded
falling_by_keeps P d f base step zero n = base
falling_by_keeps {A} P d f base step (suc g) n =
    step (below n d (falling_by d f g)) (λ m. go (ltb m n) m (falling_by_keeps P d f base step g m)) n
  where
    go : (b : Bool) (m : ℕ) → P (falling_by d f g m) → P (guarded b d (falling_by d f g) m)
    go true m p = p
    go false m p = base

-- What holds of the default, and of each step whose answers below it holds of, holds of every answer.
pub falling_keeps :
    {A : Type 0} (P : A → Type 0) (d : A) (f : (ℕ → A) → ℕ → A) → P d →
    ((self : ℕ → A) → ((m : ℕ) → P (self m)) → (n : ℕ) → P (f self n)) → (n : ℕ) → P (falling d f n)
unfolding falling
falling_keeps P d f base step n = falling_by_keeps P d f base step (suc n) n
