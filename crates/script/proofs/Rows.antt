-- What is read of a list, also past its end; and the script that tables hold: its counts, its root, and its records, which are the
-- tables' rows. Assumes nothing.
use Prim.Native.Nat.{ℕ, ◌-◌, ◌<◌}
use mathlib.Core.Path.{◌≡◌, ap, subst⁻¹}
use mathlib.Core.List.{List}
use mathlib.Core.Logic.{⊎_elim}
use lib.ListN.{length, get_or, get_or-eq_default}
use lib.Dec.{ltb}
use borrow.Author.Tests.{ltb-true, ltb-false}
use Rattle.lambdamix.proofs.Tests.{holds_or_fails}
use Rattle.lambdamix.specs.Script.{root, node_at, node_count}
use Rattle.lambdamix.specs.Types.{blank_type}
use Rattle.script.specs.Tables.{Tables, row_type, row_input, row_node, tables_script}
use Rattle.script.proofs.Numbered.{length_numbered, row_at_lem}

-- what holds of each thing in a list, and of what is read past its end, holds wherever the list is read
pub everywhere :
    {A : Type 0} (P : A → Type 0) (d : A) (xs : List A) → P d → ((j : ℕ) → j < length xs → P (get_or xs j d)) → (j : ℕ) → P (get_or xs j d)
everywhere P d xs h each j =
    ⊎_elim (λ e. each j (ltb-true j (length xs) e))
    (λ e. subst⁻¹ P (get_or-eq_default xs d (ltb-false j (length xs) e)) h) (holds_or_fails (ltb j (length xs)))

module _ (t i n : ℕ) (x : Tables) where
  pub type_count_lem : length (tables_script t i n x).types ≡ t
  unfolding tables_script
  type_count_lem = length_numbered _ 0 t

  pub input_count_lem : length (tables_script t i n x).inputs ≡ i
  unfolding tables_script
  input_count_lem = length_numbered _ 0 i

  pub node_count_lem : node_count (tables_script t i n x) ≡ n
  unfolding tables_script node_count
  node_count_lem = length_numbered _ 0 n

  pub root_last : root (tables_script t i n x) ≡ n - 1
  unfolding root
  root_last = ap (λ (k : ℕ). k - 1) node_count_lem

  pub type_row : (j : ℕ) → j < t → get_or (tables_script t i n x).types j blank_type ≡ row_type x j
  unfolding tables_script
  type_row j h = row_at_lem _ _ _ j h

  pub input_row : (j : ℕ) → j < i → get_or (tables_script t i n x).inputs j 0 ≡ row_input x j
  unfolding tables_script
  input_row j h = row_at_lem _ _ _ j h

  pub node_row : (j : ℕ) → j < n → node_at (tables_script t i n x) j ≡ row_node x j
  unfolding tables_script node_at
  node_row j h = row_at_lem _ _ _ j h
