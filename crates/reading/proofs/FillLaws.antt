-- Tables that were filled from a file hold the file's script, and a script's tables hold the script; they stay long enough; which tables can be
-- filled. Assumes nothing.
use Prim.Native.Nat.{ℕ, ◌+◌, ◌<◌}
use mathlib.Core.Path.{◌≡◌, sym, ap, ◌∙◌}
use mathlib.Core.Bool.{true}
use mathlib.Core.List.{List, ◌++◌, map}
use native.Mathlib.Omega.{arith}
use lib.IntN.{ℤ}
use lib.ListN.{length, get_or, drop, length-append, length-drop, length-map, get_or-append, get_or-map}
use lib.Dec.{leb}
use borrow.Author.Tests.{le-leb, leb-true}
use Rattle.lambdamix.specs.Script.{Script, FunctionType, Node, blank_node}
use Rattle.lambdamix.specs.Types.{blank_type}
use Rattle.lambdamix.proofs.Tests.{and_intro, and_both}
use Rattle.script.specs.declared.Counts.{Counts}
use Rattle.script.specs.Bytes.{byte_at, number16, number32, signed32}
use Rattle.script.specs.File.{numbered, type_offset, input_offset, node_offset, type_from, input_from, node_from, head_types, head_inputs, head_nodes, script_in}
use Rattle.script.specs.Tables.{Tables, row_type, row_input, row_node, tables_script, long_enough, over, filled, tables_of}
use Rattle.script.specs.Columns.{enough}
use Rattle.script.specs.Replies.{head_counts}
use Rattle.reading.specs.Heads.{script_by, FillFits}
use Rattle.script.proofs.Numbered.{length_numbered, numbered_whole, map_numbered}

-- ---- filled tables hold the script that filled them

over_at : {A : Type 0} (xs old : List A) (d : A) (i : ℕ) → i < length xs → get_or (over xs old) i d ≡ get_or xs i d
unfolding over
over_at xs old d i h = get_or-append xs (drop (length xs) old) d i h

-- a column of things
column_at : {A B : Type 0} (h : A → B) (xs : List A) (old : List B) (d : A) (i : ℕ) → i < length xs
    → get_or (over (map h xs) old) i (h d) ≡ h (get_or xs i d)
column_at h xs old d i l = over_at (map h xs) old (h d) i (rw (length-map xs h) l) ∙ get_or-map h xs i d

module _ (s : Script) (x : Tables) where
  type_row : (i : ℕ) → i < length s.types → row_type (filled s x) i ≡ get_or s.types i blank_type
  unfolding row_type filled
  type_row i l =
      λ k.
      record {
        parameter = column_at (λ (t : FunctionType). t.parameter) s.types x.parameters blank_type i l k;
        result = column_at (λ (t : FunctionType). t.result) s.types x.results blank_type i l k;
      }

  input_row : (i : ℕ) → i < length s.inputs → row_input (filled s x) i ≡ get_or s.inputs i 0
  unfolding row_input filled
  input_row i l = over_at s.inputs x.inputs 0 i l

  node_row : (i : ℕ) → i < length s.nodes → row_node (filled s x) i ≡ get_or s.nodes i blank_node
  unfolding row_node filled
  node_row i l =
      λ k.
      record {
        kind = column_at (λ (d : Node). d.kind) s.nodes x.kinds blank_node i l k;
        a = column_at (λ (d : Node). d.a) s.nodes x.a blank_node i l k;
        b = column_at (λ (d : Node). d.b) s.nodes x.b blank_node i l k;
        c = column_at (λ (d : Node). d.c) s.nodes x.c blank_node i l k;
        value = column_at (λ (d : Node). d.value) s.nodes x.values blank_node i l k;
      }

  -- Tables filled with a script hold it, whatever they held before.
  pub script_held : tables_script (length s.types) (length s.inputs) (length s.nodes) (filled s x) ≡ s
  unfolding tables_script
  script_held =
      λ k.
      record {
        types = numbered_whole (row_type (filled s x)) blank_type s.types type_row k;
        inputs = numbered_whole (row_input (filled s x)) 0 s.inputs input_row k;
        nodes = numbered_whole (row_node (filled s x)) blank_node s.nodes node_row k;
      }

-- Tables filled from a file hold the file's script.
pub file_held : (bs : List ℕ) (x : Tables) → tables_script (head_types bs) (head_inputs bs) (head_nodes bs) (filled (script_in bs) x) ≡ script_in bs
unfolding script_in
file_held bs x =
    rw (
      length_numbered (λ j. type_from bs (type_offset j)) 0 (head_types bs),
      length_numbered (λ j. input_from bs (input_offset (head_types bs) j)) 0 (head_inputs bs),
      length_numbered (λ j. node_from bs (node_offset (head_types bs) (head_inputs bs) j)) 0 (head_nodes bs),
    ) at
    (script_held (script_in bs) x)

-- ---- columns that are filled stay as long as they were

still_long : {A : Type 0} (k : ℕ) (new old : List A) → leb k (length old) ≡ true → leb k (length (over new old)) ≡ true
unfolding over
still_long k new old e =
    le-leb k (length (new ++ drop (length new) old)) (simp (length-append, length-drop) (omega (arith, leb-true k (length old) e)))

-- Tables that are long enough for counts are so when they are filled.
pub filled_long : (t i n : ℕ) (s : Script) (x : Tables) → long_enough t i n x ≡ true → long_enough t i n (filled s x) ≡ true
unfolding long_enough enough filled
filled_long t i n s x e =
    let (types, rest) = and_both _ _ e in
    let (inputs, nodes) = and_both _ _ rest in
    let (two, three) = and_both _ _ nodes in
    let (ps, rs) = and_both _ _ types in
    let (ks, xs) = and_both _ _ two in
    let (ys, others) = and_both _ _ three in
    let (zs, vs) = and_both _ _ others in
    and_intro (and_intro (still_long t _ x.parameters ps) (still_long t _ x.results rs))
    (and_intro (still_long i _ x.inputs inputs)
    (and_intro (and_intro (still_long n _ x.kinds ks) (still_long n _ x.a xs))
    (and_intro (still_long n _ x.b ys) (and_intro (still_long n _ x.c zs) (still_long n _ x.values vs)))))

-- ---- eight columns, each filled from a file, are the tables filled with its script

column_filled : {A B : Type 0} (h : A → B) (f : ℕ → A) (n : ℕ) (old : List B) {now : List B}
    → now ≡ over (numbered (λ j. h (f j)) 0 n) old → now ≡ over (map h (numbered f 0 n)) old
column_filled {B = B} h f n old p = p ∙ ap (λ (xs : List B). over xs old) (sym (map_numbered h f 0 n))

module _ (bs : List ℕ) (n : Counts) (x : Tables) where
  pub tables_filled : {ps rs is ks xs ys zs : List ℕ} {vs : List ℤ}
      → ps ≡ over (numbered (λ j. number16 bs (type_offset j + 2)) 0 n.types) x.parameters
      → rs ≡ over (numbered (λ j. number16 bs (type_offset j + 4)) 0 n.types) x.results
      → is ≡ over (numbered (λ k. number16 bs (input_offset n.types k + 2)) 0 n.inputs) x.inputs
      → ks ≡ over (numbered (λ i. byte_at bs (node_offset n.types n.inputs i + 2)) 0 n.nodes) x.kinds
      → xs ≡ over (numbered (λ i. number16 bs (node_offset n.types n.inputs i + 3)) 0 n.nodes) x.a
      → ys ≡ over (numbered (λ i. number16 bs (node_offset n.types n.inputs i + 5)) 0 n.nodes) x.b
      → zs ≡ over (numbered (λ i. number16 bs (node_offset n.types n.inputs i + 7)) 0 n.nodes) x.c
      → vs ≡ over (numbered (λ i. signed32 (number32 bs (node_offset n.types n.inputs i + 9))) 0 n.nodes) x.values
      → tables_of ps rs is ks xs ys zs vs ≡ filled (script_by n bs) x
  unfolding filled script_by type_from input_from node_from
  tables_filled p q r s a b c d =
      let types : ℕ → FunctionType = λ j. type_from bs (type_offset j) in
      let nodes : ℕ → Node = λ i. node_from bs (node_offset n.types n.inputs i) in
      λ i.
      tables_of
      (column_filled (λ (t : FunctionType). t.parameter) types n.types x.parameters p i)
      (column_filled (λ (t : FunctionType). t.result) types n.types x.results q i)
      (r i)
      (column_filled (λ (y : Node). y.kind) nodes n.nodes x.kinds s i)
      (column_filled (λ (y : Node). y.a) nodes n.nodes x.a a i)
      (column_filled (λ (y : Node). y.b) nodes n.nodes x.b b i)
      (column_filled (λ (y : Node). y.c) nodes n.nodes x.c c i)
      (column_filled (λ (y : Node). y.value) nodes n.nodes x.values d i)

-- ---- which tables can be filled

module _ (n : Counts) (x : Tables) where
  -- those that are long enough for the counts
  pub fill_fits :
      enough n.types n.inputs n.nodes (length x.parameters) (length x.results) (length x.inputs) (length x.kinds)
      (length x.a) (length x.b) (length x.c) (length x.values)
      ≡ true
      → FillFits n x
  unfolding enough
  fill_fits h =
      let p = and_both _ _ h in
      let t = and_both _ _ p.0 in
      let q = and_both _ _ p.1 in
      let r = and_both _ _ q.1 in
      let k = and_both _ _ r.0 in
      let b = and_both _ _ r.1 in
      let c = and_both _ _ b.1 in
      record {
        parameters = leb-true _ _ t.0;
        results = leb-true _ _ t.1;
        inputs = leb-true _ _ q.0;
        kinds = leb-true _ _ k.0;
        a = leb-true _ _ k.1;
        b = leb-true _ _ b.0;
        c = leb-true _ _ c.0;
        values = leb-true _ _ c.1;
      }

-- ---- with what

-- the head's counts give the file's script
pub by_head : (bs : List ℕ) {n : Counts} → n ≡ head_counts bs → script_by n bs ≡ script_in bs
unfolding head_counts script_by script_in
by_head bs e = ap (λ (m : Counts). script_by m bs) e
