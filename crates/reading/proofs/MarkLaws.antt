-- The searches for a record without its mark, by distances, are those by the records' offsets. Assumes nothing.
use Prim.Native.Nat.{ℕ, ◌+◌, ◌*◌}
use mathlib.Core.Path.{◌≡◌, ap, ◌∙◌, fun_ext}
use mathlib.Core.List.{List}
use mathlib.Core.Option.{Option}
use native.Mathlib.Omega.{arith}
use Rattle.lambdamix.specs.Refusal.{Refusal, first_failing}
use Rattle.script.specs.File.{type_offset, input_offset, node_offset}
use Rattle.script.specs.Refusals.{marked, refused_record}

-- the refusal of n records by distances, and by offsets
by_offsets : (x y : ℕ) (bs : List ℕ) (first stride n : ℕ) (offset : ℕ → ℕ) {r : Option Refusal} → ((j : ℕ) → first + stride * j ≡ offset j)
    → r ≡ refused_record 2 (λ j. first + stride * j) (first_failing (λ j. marked x y bs (first + stride * j)) 0 n)
    → r ≡ refused_record 2 offset (first_failing (λ j. marked x y bs (offset j)) 0 n)
by_offsets x y bs first stride n offset h e =
    e ∙ ap (λ (o : ℕ → ℕ). refused_record 2 o (first_failing (λ j. marked x y bs (o j)) 0 n)) (fun_ext h)

module _ (bs : List ℕ) {r : Option Refusal} where
  pub type_marks : (f t : ℕ) → f ≡ type_offset 0
      → r ≡ refused_record 2 (λ j. f + 6 * j) (first_failing (λ j. marked 84 89 bs (f + 6 * j)) 0 t)
      → r ≡ refused_record 2 type_offset (first_failing (λ j. marked 84 89 bs (type_offset j)) 0 t)
  unfolding type_offset
  type_marks f t e p = by_offsets 84 89 bs f 6 t type_offset (λ j. omega arith) p

  pub input_marks : (f t i : ℕ) → f ≡ input_offset t 0
      → r ≡ refused_record 2 (λ j. f + 4 * j) (first_failing (λ j. marked 73 78 bs (f + 4 * j)) 0 i)
      → r ≡ refused_record 2 (input_offset t) (first_failing (λ j. marked 73 78 bs (input_offset t j)) 0 i)
  unfolding input_offset
  input_marks f t i e p = by_offsets 73 78 bs f 4 i (input_offset t) (λ j. omega arith) p

  pub node_marks : (f t i n : ℕ) → f ≡ node_offset t i 0
      → r ≡ refused_record 2 (λ j. f + 13 * j) (first_failing (λ j. marked 78 68 bs (f + 13 * j)) 0 n)
      → r ≡ refused_record 2 (node_offset t i) (first_failing (λ j. marked 78 68 bs (node_offset t i j)) 0 n)
  unfolding node_offset
  node_marks f t i n e p = by_offsets 78 68 bs f 13 n (node_offset t i) (λ j. omega arith) p
