-- Laws of the contents of records: a node by its kind, fields and value, a type record by its parts and pairs, and all records by three
-- searches. Assumes nothing.
use Rattle.std.specs.Prelude.{None, Some}
use Rattle.std.specs.Option.{is_some}
use Prim.Native.Nat.{ℕ, zero, suc, ◌+◌, ◌<◌, ◌≤◌}
use mathlib.Core.Path.{◌≡◌, refl, sym, ap, ◌∙◌}
use mathlib.Core.Bool.{Bool, true, false, not, ◌&&◌, ◌||◌, and-true}
use mathlib.Core.List.{List, [], ◌∷◌}
use mathlib.Core.Option.{Option, some}
use native.Mathlib.Omega.{arith}
use lib.IntN.{ℤ, pos}
use lib.ListN.{length, get_or}
use lib.Dec.{ltb, eqb, lit<}
use mir.Syntax.{w32}
use mir.Val.{SFits, of_z}
use mir.Facts.{to_z-of_z}
use borrow.Author.Tests.{eqb-true, ltb-true, lt-ltb, le-ltb, eq-eqb, ne_eqb}
use Rattle.lambdamix.specs.declared.Use.{Use}
use Rattle.lambdamix.specs.declared.Use.TheVariants.{Nothing}
use Rattle.lambdamix.specs.Arithmetic.{eq_z}
use Rattle.lambdamix.specs.Script.{FunctionType, Node, rows, row_of, fields}
use Rattle.lambdamix.specs.Refusal.{first_failing, or_else, refused_unless}
use Rattle.lambdamix.proofs.Tests.{and_both}
use Rattle.lambdamix.proofs.Signed.{held, same_bits}
use Rattle.script.specs.Kinds.{use_of, uses_table}
use Rattle.script.specs.KindRows.{row_at}
use Rattle.script.specs.declared.Row.{Row}
use Rattle.lambdamix.specs.Code.{node}
use Rattle.script.specs.Answers.{Found}
use Rattle.script.specs.Refusals.{field_right, fields_right, node_fits, is_none, other_pair, type_fits, input_fits, counts_right, refused_record, content_of}
use Rattle.script.specs.File.{type_offset, input_offset, node_offset}
use Rattle.script.specs.Tables.{Tables, row_type, row_input, row_node}
use Rattle.tables.specs.Contents.{content_in}
use Rattle.script.specs.Verdicts.{found_at}
use Rattle.script.proofs.TableLaws.{every, row_uses}

and_false : (b : Bool) → (b && false) ≡ false
and_false true = refl
and_false false = refl

and_swap : (a b : Bool) → (a && b) ≡ (b && a)
and_swap true b = sym (and-true b)
and_swap false b = sym (and_false b)

-- a test that passes at each entry passes at each place inside the table
at_place : {A : Type 0} (p : A → Bool) (d : A) (xs : List A) → every p xs ≡ true → (k : ℕ) → k < length xs → p (get_or xs k d) ≡ true
unfolding every
at_place p d [] e k h = let z : ⊥ = omega arith in absurd z
at_place p d (x ∷ xs) e zero h = (and_both (p x) (every p xs) e).0
at_place p d (x ∷ xs) e (suc k) h = at_place p d xs (and_both (p x) (every p xs) e).1 k (omega arith)

three_uses : (k : ℕ) → k < 13 → length (get_or uses_table k []) ≡ 3
unfolding uses_table rows every
three_uses k h = eqb-true _ 3 (at_place (λ (us : List Use). eqb (length us) 3) [] uses_table refl k h)

by_three : (us : List Use) → length us ≡ 3 → (get_or us 0 Nothing ∷ get_or us 1 Nothing ∷ get_or us 2 Nothing ∷ []) ≡ us
by_three [] e = let z : ⊥ = omega arith in absurd z
by_three (u ∷ []) e = let z : ⊥ = omega arith in absurd z
by_three (u ∷ v ∷ []) e = let z : ⊥ = omega arith in absurd z
by_three (u ∷ v ∷ w ∷ []) e = refl
by_three (u ∷ v ∷ w ∷ x ∷ us) e = let z : ⊥ = omega arith in absurd z

-- a row that was read holds the table's uses
row_told : {m k : ℕ} {r : Row} → r ≡ row_at m → k ≡ m → m < 13 → (r.0 ∷ r.1 ∷ r.2 ∷ []) ≡ get_or uses_table k []
unfolding row_at use_of
row_told {m} e f h = rw (e, f) (by_three (get_or uses_table m []) (three_uses m h))

-- A row's test is the tests of its three fields, as they were answered.
pub row_test : (t n j : ℕ) (u v w : Use) (a b c : ℕ) {x x' y y' z z' : Bool}
    → x ≡ field_right t n j u a → x ≡ x' → y ≡ field_right t n j v b → y ≡ y' → z ≡ field_right t n j w c → z ≡ z'
    → (x' && (y' && z')) ≡ fields_right t n j (u ∷ v ∷ w ∷ []) (a ∷ b ∷ c ∷ [])
unfolding fields_right
row_test t n j u v w a b c p p' q q' r r' = cc (and-true (field_right t n j w c))

module _ (t n j k a b c : ℕ) where
  row_is : (v : ℤ) → fields_right t n j (row_of (node k a b c v)).uses (fields (node k a b c v)) ≡ fields_right t n j (get_or uses_table k []) (a ∷ b ∷ c ∷ [])
  unfolding fields
  row_is v = ap (λ (us : List Use). fields_right t n j us (a ∷ b ∷ c ∷ [])) (row_uses (node k a b c v))

  by_own_row : (v : ℤ) → k < 13
      → ((eqb k 0 || eq_z v (pos 0)) && fields_right t n j (get_or uses_table k []) (a ∷ b ∷ c ∷ [])) ≡ node_fits t n (λ j. node k a b c v) j
  unfolding node_fits
  by_own_row v h = and_swap (eqb k 0 || eq_z v (pos 0)) (fields_right t n j (get_or uses_table k []) (a ∷ b ∷ c ∷ [])) ∙ simp (lt-ltb k 13 h, row_is v)

  module _ {m : ℕ} {r : Row} (e : r ≡ row_at m) where
    -- What holds by the row of kind m holds of a node whose kind is m; its value comes as it is read back from its bits.
    pub of_kind : k ≡ m → (ltb 0 m && ltb m 13) ≡ true → {v : ℤ} → SFits w32 v
        → (eq_z (held w32 v) (pos 0) && fields_right t n j (r.0 ∷ r.1 ∷ r.2 ∷ []) (a ∷ b ∷ c ∷ [])) ≡ node_fits t n (λ j. node k a b c v) j
    of_kind f x {v} g =
        let l = ltb-true 0 m (and_both (ltb 0 m) (ltb m 13) x).0 in
        let h = ltb-true m 13 (and_both (ltb 0 m) (ltb m 13) x).1 in
        rw (to_z-of_z g, row_told e f h) (rw (ne_eqb k 0 (λ p. omega arith)) at (by_own_row v (omega arith)))

    pub of_constant : k ≡ m → m ≡ 0 → (v : ℤ)
        → fields_right t n j (r.0 ∷ r.1 ∷ r.2 ∷ []) (a ∷ b ∷ c ∷ []) ≡ node_fits t n (λ j. node k a b c v) j
    of_constant f g v = rw (row_told e f (omega arith)) (rw (eq-eqb k 0 (omega arith)) at (by_own_row v (omega arith)))

  pub held_value : {v : ℤ} → SFits w32 v → node_fits t n (λ j. node k a b c (held w32 v)) j ≡ node_fits t n (λ j. node k a b c v) j
  held_value f = ap (λ (z : ℤ). node_fits t n (λ j. node k a b c z) j) (to_z-of_z f)

  pub wrong_kind : (v : ℤ) → 13 ≤ k → false ≡ node_fits t n (λ j. node k a b c v) j
  unfolding node_fits
  wrong_kind v h = simp (le-ltb k 13 h)

-- the test of a value by its bits
zero_bits : {v : ℤ} → SFits w32 v → eqb (of_z w32 v) 0 ≡ eq_z v (pos 0)
zero_bits f = same_bits f (record { sfits = lit< tt })

pub value_zero : {v : ℤ} → SFits w32 v → of_z w32 v ≡ 0 → eq_z v (pos 0) ≡ true
value_zero f e = sym (zero_bits f) ∙ eq-eqb _ _ e

pub value_other : {v : ℤ} → SFits w32 v → (of_z w32 v ≡ 0 → ⊥) → eq_z v (pos 0) ≡ false
value_other f e = sym (zero_bits f) ∙ ne_eqb _ 0 e

-- what is told of a node as its columns' reads give it
pub node_told : (t n j : ℕ) (f : ℕ → Node) {k a b c : ℕ} {v : ℤ} {r e : Bool}
    → r ≡ node_fits t n (λ j. node k a b c v) j → k ≡ (f j).kind → a ≡ (f j).a → b ≡ (f j).b → c ≡ (f j).c → v ≡ (f j).value
    → r ≡ e → node_fits t n f j ≡ e
unfolding node_fits
node_told t n j f h p q r s u g = simp (p, q, r, s, u) at (sym h) ∙ g

-- ---- a type record

-- two pairs differ where their parameters do, and else where their results do
pub differ_first : (a b : Bool) {r : Bool} → r ≡ not a → r ≡ true → r ≡ not (a && b)
differ_first true b e f = cc
differ_first false b e f = e

pub differ_second : (a b : Bool) {r s : Bool} → r ≡ not a → r ≡ false → s ≡ not b → s ≡ not (a && b)
differ_second true b e f g = g
differ_second false b e f g = cc

-- a search that finds nothing
pub nothing_found : (r : Found) {b : Bool} → is_some r ≡ not b → b ≡ is_none (found_at r)
unfolding is_none found_at
nothing_found None {b = true} e = refl
nothing_found None {b = false} e = e
nothing_found (Some i) {b = true} e = e
nothing_found (Some i) {b = false} e = refl

module _ (f : ℕ → FunctionType) (j : ℕ) where
  pub wrong_parameter : 2 + j ≤ (f j).parameter → false ≡ type_fits f j
  unfolding type_fits
  wrong_parameter h = simp (le-ltb (f j).parameter (2 + j) h)

  pub wrong_result : 2 + j ≤ (f j).result → false ≡ type_fits f j
  unfolding type_fits
  wrong_result h = simp (le-ltb (f j).result (2 + j) h, and_false)

  -- with both parts right, the search for the same pair decides
  pub right_by_pairs : (f j).parameter < 2 + j → (f j).result < 2 + j → {r r' : Found}
      → found_at r ≡ first_failing (other_pair f j) 0 j → r ≡ r' → is_none (found_at r') ≡ type_fits f j
  unfolding type_fits
  right_by_pairs h k p q = simp (lt-ltb (f j).parameter (2 + j) h, lt-ltb (f j).result (2 + j) k, ← p, q)

-- ---- counts, and all records

module _ (t i n : ℕ) (x : Tables) where
  pub wrong_counts : counts_right t i n ≡ false → some (record { number = 3; place = 0 }) ≡ content_in t i n x
  unfolding content_in refused_unless or_else
  wrong_counts e = simp e

  -- with right counts, the first bad record of three searches is refused
  pub content_by_searches : counts_right t i n ≡ true → {p q r : Option ℕ}
      → p ≡ first_failing (type_fits (row_type x)) 0 t
      → q ≡ first_failing (input_fits (row_input x)) 0 i
      → r ≡ first_failing (node_fits t i (row_node x)) 0 n
      → or_else (refused_record 4 type_offset p)
      (or_else (refused_record 4 (input_offset t) q) (refused_record 5 (node_offset t i) r))
      ≡ content_in t i n x
  unfolding content_in content_of refused_unless or_else
  content_by_searches e h k l = simp (e, h, k, l)
