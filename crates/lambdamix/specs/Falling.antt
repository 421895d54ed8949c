-- Recursion on falling numbers: a step function is handed the answers at smaller numbers, and a default at all others.
-- Trees, types and heights of a table's nodes are instances. The law that unfolds one step is `falling_step` of
-- proofs/Falling.antt. Assumes nothing.
use Rattle.std.specs.Prelude.{ℕ, zero, suc, Bool, true, false, ltb}

-- the answer at m where the test holds, else the default
unfoldable pub guarded : {A : Type 0} → Bool → A → (ℕ → A) → ℕ → A
guarded true d self m = self m
guarded false d self m = d

-- the answer at m where m is below n, else the default
unfoldable pub below : {A : Type 0} → ℕ → A → (ℕ → A) → ℕ → A
below n d self m = guarded (ltb m n) d self m

unfoldable pub falling_by : {A : Type 0} → A → ((ℕ → A) → ℕ → A) → ℕ → ℕ → A
falling_by d f zero n = d
falling_by d f (suc g) n = f (below n d (falling_by d f g)) n

unfoldable pub falling : {A : Type 0} → A → ((ℕ → A) → ℕ → A) → ℕ → A
falling d f n = falling_by d f (suc n) n
