-- The script that tables hold has the tables' rows, so the contents of either are refused alike; and where nothing of the contents
-- is refused, every node is right; which tables are too short. Assumes nothing.
use Rattle.std.specs.Prelude.{Err, Ok}
use Prim.Native.Nat.{ℕ, ◌<◌, ◌≤◌}
use mathlib.Core.Path.{◌≡◌, refl, sym, ap₂, ◌∙◌}
use mathlib.Core.Bool.{Bool, true, false, not, ◌&&◌}
use mathlib.Core.List.{List}
use mathlib.Core.Option.{Option, none, some}
use lib.IntN.{ℤ}
use lib.ListN.{length}
use lib.Dec.{leb}
use borrow.Author.Tests.{leb-true}
use native.Mathlib.Omega.{arith}
use Rattle.lambdamix.specs.Script.{FunctionType, Node, blank_node, node_at}
use Rattle.lambdamix.specs.Types.{blank_type}
use Rattle.lambdamix.specs.Refusal.{or_else, refused_unless, Refusal}
use Rattle.lambdamix.specs.Structure.{structure_refusal}
use Rattle.lambdamix.proofs.Tests.{and_both}
use Rattle.script.specs.File.{type_offset, input_offset, node_offset}
use Rattle.script.specs.Refusals.{type_fits, input_fits, node_fits, other_pair, same_pair, refused_record, counts_right, content_of, content_refusal, script_refusal}
use Rattle.script.specs.Tables.{Tables, row_type, row_input, row_node, tables_script, long_enough, tables_refusal, tables_of}
use Rattle.tables.specs.Contents.{content_in}
use Rattle.script.specs.Columns.{enough}
use Rattle.script.specs.declared.columns.Columns as Lent
use Rattle.script.specs.Words.{Packed}
use Rattle.walks.specs.Walks.{Structured}
use Rattle.script.specs.Verdicts.{found_at, refusal_of}
use Rattle.script.specs.Answers.{Found, Verdict}
use Rattle.script.specs.declared.Refusal as Refused
use Rattle.tables.specs.PackedTables.{HoldNodes, PackedNodes, PackedTables}
use Rattle.script.proofs.RefusalLaws.{no_record, passes, neither, not_refused}
use Rattle.script.proofs.Verdicts.{passed_tells_none}
use Rattle.script.proofs.Sound.{in_limits}
use Rattle.script.proofs.Numbered.{length_numbered, row_at_lem}
use Rattle.script.proofs.Searching.{first_same}

-- records that are the same up to record j pass its test alike
type_same : (f g : ℕ → FunctionType) (j : ℕ) → ((i : ℕ) → i ≤ j → f i ≡ g i) → type_fits f j ≡ type_fits g j
unfolding type_fits other_pair
type_same f g j h =
    rw (first_same (other_pair f j) (other_pair g j) 0 j (λ i k. other i (omega arith)), h j (omega arith))
  where
    other : (i : ℕ) → i ≤ j → other_pair f j i ≡ other_pair g j i
    other i k = ap₂ (λ (t u : FunctionType). not (same_pair t u)) (h i k) (h j (omega arith))

input_same : (f g : ℕ → ℕ) (j : ℕ) → f j ≡ g j → input_fits f j ≡ input_fits g j
unfolding input_fits
input_same f g j e = rw e

node_same : (t n : ℕ) (f g : ℕ → Node) (j : ℕ) → f j ≡ g j → node_fits t n f j ≡ node_fits t n g j
unfolding node_fits
node_same t n f g j e = rw e

-- rows that are the same below the counts are refused alike
content_same : (t i n : ℕ) (f g : ℕ → FunctionType) (h k : ℕ → ℕ) (u v : ℕ → Node)
    → ((j : ℕ) → j < t → f j ≡ g j) → ((j : ℕ) → j < i → h j ≡ k j) → ((j : ℕ) → j < n → u j ≡ v j)
    → content_of t i n f h u ≡ content_of t i n g k v
unfolding content_of
content_same t i n f g h k u v p q r =
    rw (
      first_same (type_fits f) (type_fits g) 0 t (λ j l. type_same f g j (λ m o. p m (omega arith))),
      first_same (input_fits h) (input_fits k) 0 i (λ j l. input_same h k j (q j (omega arith))),
      first_same (node_fits t i u) (node_fits t i v) 0 n (λ j l. node_same t i u v j (r j (omega arith))),
    )

or_assoc : {A : Type 0} (a b c : Option A) → or_else a (or_else b c) ≡ or_else (or_else a b) c
unfolding or_else
or_assoc none b c = refl
or_assoc (some a) b c = refl

module _ (t i n : ℕ) (x : Tables) where
  -- The contents of a tables' script are refused as the rows of the tables are.
  pub content_of_tables : content_refusal (tables_script t i n x) ≡ content_of t i n (row_type x) (row_input x) (row_node x)
  unfolding content_refusal tables_script node_at
  content_of_tables =
      rw (length_numbered (row_type x) 0 t, length_numbered (row_input x) 0 i, length_numbered (row_node x) 0 n)
      (content_same t i n _ _ _ _ _ _ (row_at_lem (row_type x) t blank_type) (row_at_lem (row_input x) i 0) (row_at_lem (row_node x) n blank_node))

  -- Refusals 3 to 8 of a tables' script: 3 to 5 of the rows, then 6 to 8.
  pub script_of_tables : script_refusal (tables_script t i n x) ≡ or_else (content_in t i n x) (structure_refusal (tables_script t i n x))
  unfolding script_refusal content_in tables_script
  script_of_tables =
      rw (
        content_of_tables,
        length_numbered (row_type x) 0 t,
        length_numbered (row_input x) 0 i,
        length_numbered (row_node x) 0 n,
      )
      (or_assoc (refused_unless (counts_right t i n) 3 0) (content_of t i n (row_type x) (row_input x) (row_node x)) _)

-- Where the contents are not refused, every node is right.
pub nodes_right : (t i n : ℕ) (f : ℕ → FunctionType) (g : ℕ → ℕ) (h : ℕ → Node) → content_of t i n f g h ≡ none
    → (j : ℕ) → j < n → node_fits t i h j ≡ true
unfolding content_of
nodes_right t i n f g h e j l =
    passes (node_fits t i h) n (no_record 5 (node_offset t i) _ (neither _ _ (neither _ _ e).1).1) j l

-- with nothing of 3, 4 and 5 the counts are right, and so are the contents
content_passes : (t i n : ℕ) (x : Tables) → content_in t i n x ≡ none
    → (counts_right t i n ≡ true) × (content_of t i n (row_type x) (row_input x) (row_node x) ≡ none)
unfolding content_in
content_passes t i n x e = let (counts, contents) = neither _ _ e in (not_refused _ _ _ counts, contents)

module _ (t i n : ℕ) (ps rs is ks xs ys zs : List ℕ) (vs : List ℤ) where
  abbrev columns : Tables
  columns = tables_of ps rs is ks xs ys zs vs

  -- After the contents the check of structure gives 6, 7 and 8.
  pub structure_after : content_in t i n columns ≡ none → (r : Verdict) {ws : List ℕ} → Packed n (row_node columns) ws → Structured ws i n r
      → refusal_of r ≡ structure_refusal (tables_script t i n columns)
  structure_after e r p m =
      let q = content_passes t i n columns e in
      let l = in_limits t i n q.0 in
      m.refusal t columns l.some_node l.nodes p
      (nodes_right t i n (row_type columns) (row_input columns) (row_node columns) q.1)

  pub refused_by_content : {v : Verdict} {f : Refused.Refusal} → refusal_of v ≡ content_in t i n columns → v ≡ Err f
      → refusal_of (Err f) ≡ script_refusal (tables_script t i n columns)
  unfolding refusal_of or_else
  refused_by_content {v} {f} p q = rw (script_of_tables t i n columns, ← p, q)

  module _ {v : Verdict} (p : refusal_of v ≡ content_in t i n columns) (q : v ≡ (Ok tt)) {ws : List ℕ}
      (k : PackedTables v n columns ws) where
    pub refused_by_structure : (r : Verdict) → Structured ws i n r → refusal_of r ≡ script_refusal (tables_script t i n columns)
    unfolding refusal_of or_else
    refused_by_structure r m = rw (script_of_tables t i n columns, ← p, q) (structure_after (passed_tells_none p q) r (k.nodes q) m)

    pub packed_by_content : (r : Verdict) → PackedTables r n columns ws
    packed_by_content r = record { nodes = λ e. k.nodes q }

-- a verdict that refuses says nothing of the words
pub not_packed : {f : Refused.Refusal} {n : ℕ} {x : Tables} {after : List ℕ} → PackedTables (Err f) n x after
not_packed = record { nodes = λ e. let z : ◌≡◌ {A = ℕ} 0 1 = cc in absurd (omega arith) }

-- contents are packed where their search for a bad node found none
pub packed_by_search :
    (t i : ℕ) (p q : Option ℕ) (r : Found) {v : Verdict} {n : ℕ} {x : Tables} {after : List ℕ}
    → refusal_of v ≡ or_else (refused_record 4 type_offset p) (or_else (refused_record 4 (input_offset t) q) (refused_record 5 (node_offset t i) (found_at r)))
    → PackedNodes r n (row_node x) after → PackedTables v n x after
packed_by_search t i p q r e k =
    record { nodes = λ h. k.all (no_record 5 (node_offset t i) (found_at r) (neither _ _ (neither _ _ (passed_tells_none e h)).1).1) }

-- columns that are long enough hold the nodes
pub long_holds : (t i n : ℕ) (x : Lent.Columns) {b : Bool}
    → b
    ≡ enough t i n (length x.parameters.now) (length x.results.now) (length x.inputs.now) (length x.kinds.now) (length x.a.now)
    (length x.b.now) (length x.c.now) (length x.values.now)
    → b ≡ true → HoldNodes n x
unfolding enough
long_holds t i n x e f =
    let p = (and_both (leb t (length x.parameters.now) && leb t (length x.results.now)) _ (sym e ∙ f)).1 in
    let q = (and_both (leb i (length x.inputs.now)) _ p).1 in
    let r = and_both (leb n (length x.kinds.now) && leb n (length x.a.now)) _ q in
    let u = and_both (leb n (length x.kinds.now)) (leb n (length x.a.now)) r.0 in
    let v = and_both (leb n (length x.b.now)) _ r.1 in
    let w = and_both (leb n (length x.c.now)) (leb n (length x.values.now)) v.1 in
    record {
      kinds = leb-true n (length x.kinds.now) u.0;
      a = leb-true n (length x.a.now) u.1;
      b = leb-true n (length x.b.now) v.0;
      c = leb-true n (length x.c.now) w.0;
      values = leb-true n (length x.values.now) w.1;
    }

-- Short tables are refused, others as their script is.
module _ (t i n : ℕ) (x : Tables) {b : Bool}
    (e :
    b
    ≡ enough t i n (length x.parameters) (length x.results) (length x.inputs) (length x.kinds) (length x.a)
    (length x.b) (length x.c) (length x.values)) where
  pub tables_short : b ≡ false → refusal_of (Err (record { number = 1; place = 0 })) ≡ tables_refusal t i n x
  unfolding tables_refusal long_enough enough refused_unless or_else refusal_of
  tables_short f = rw (sym e ∙ f)

  pub tables_long : b ≡ true → {r : Option Refusal} → r ≡ script_refusal (tables_script t i n x) → r ≡ tables_refusal t i n x
  unfolding tables_refusal long_enough enough refused_unless or_else
  tables_long f p = rw (sym e ∙ f) p
