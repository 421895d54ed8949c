-- Laws of things in a row by their numbers: how many they are, one more, each by its number, and rows that are the same. Assumes nothing.
use Prim.Native.Nat.{ℕ, zero, suc, ◌+◌, ◌<◌}
use mathlib.Core.Path.{◌≡◌, refl, ap, ap₂, ◌∙◌}
use mathlib.Core.List.{List, [], ◌∷◌, ◌++◌, map}
use native.Mathlib.Omega.{arith}
use lib.ListN.{length, get_or}
use lib.Seq.{ext_get_or}
use Rattle.script.specs.File.{numbered}

module _ {A : Type 0} where
  pub length_numbered : (f : ℕ → A) (j n : ℕ) → length (numbered f j n) ≡ n
  unfolding numbered
  length_numbered f j zero = refl
  length_numbered f j (suc n) = ap suc (length_numbered f (suc j) n)

  pub numbered_more : (f : ℕ → A) (j n : ℕ) → numbered f j (suc n) ≡ numbered f j n ++ (f (j + n) ∷ [])
  unfolding numbered
  numbered_more f j zero = ap (λ (k : ℕ). f k ∷ []) (omega arith)
  numbered_more f j (suc n) =
      ap (◌∷◌ (f j)) (numbered_more f (suc j) n ∙ ap (λ (k : ℕ). numbered f (suc j) n ++ (f k ∷ [])) (omega arith))

  pub get_d_numbered : (f : ℕ → A) (j n : ℕ) (d : A) (i : ℕ) → i < n → get_or (numbered f j n) i d ≡ f (j + i)
  unfolding numbered
  get_d_numbered f j zero d i h = let z : ⊥ = omega arith in absurd z
  get_d_numbered f j (suc n) d zero h = ap f (omega arith)
  get_d_numbered f j (suc n) d (suc i) h = get_d_numbered f (suc j) n d i (omega arith) ∙ ap f (omega arith)

  pub row_at_lem : (f : ℕ → A) (n : ℕ) (d : A) (i : ℕ) → i < n → get_or (numbered f 0 n) i d ≡ f i
  row_at_lem f n d i h = get_d_numbered f 0 n d i h ∙ ap f (omega arith)

  -- a list is its things by their numbers
  pub numbered_whole : (f : ℕ → A) (d : A) (xs : List A) → ((i : ℕ) → i < length xs → f i ≡ get_or xs i d) → numbered f 0 (length xs) ≡ xs
  numbered_whole f d xs h =
      ext_get_or d _ xs (length_numbered f 0 (length xs))
      (λ i l. let k : i < length xs = rw (length_numbered f 0 (length xs)) at l in row_at_lem f (length xs) d i k ∙ h i k)

  pub numbered_same : (f g : ℕ → A) (j n : ℕ) → ((i : ℕ) → i < j + n → f i ≡ g i) → numbered f j n ≡ numbered g j n
  unfolding numbered
  numbered_same f g j zero h = refl
  numbered_same f g j (suc n) h =
      ap₂ ◌∷◌ (h j (omega arith)) (numbered_same f g (suc j) n (λ i k. h i (omega arith)))

  pub map_numbered : {B : Type 0} (h : A → B) (f : ℕ → A) (j n : ℕ) → map h (numbered f j n) ≡ numbered (λ i. h (f i)) j n
  unfolding numbered
  map_numbered h f j zero = refl
  map_numbered h f j (suc n) = ap (◌∷◌ (h (f j))) (map_numbered h f (suc j) n)
