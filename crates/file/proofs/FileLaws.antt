-- The script file, both ways: a script that fits the file's widths is read as it was written and its file is refused as the
-- script is; bytes that no refusal holds of are the bytes of the script that they hold. So each script has one file.
-- Assumes nothing.
use Prim.Native.Nat.{ℕ, ◌+◌, ◌*◌, ◌≤◌}
use mathlib.Core.Path.{◌≡◌, refl, sym, ap, ◌∙◌}
use mathlib.Core.Bool.{true}
use mathlib.Core.List.{List, ◌++◌}
use mathlib.Core.Option.{none}
use native.Mathlib.Omega.{arith}
use lib.ListN.{length, length-append}
use lib.Dec.{eqb}
use borrow.Author.Tests.{le-leb, eq-eqb, eqb-true}
use Rattle.lambdamix.specs.Script.{Script, node_at}
use Rattle.lambdamix.specs.Text.{ascii}
use Rattle.lambdamix.specs.Refusal.{or_else, refused_unless}
use Rattle.lambdamix.specs.Structure.{structure_refusal}
use Rattle.script.specs.Bytes.{bytes16}
use Rattle.script.specs.File.{head_bytes, type_bytes, input_bytes, node_bytes, records, file_bytes, type_offset, input_offset, node_offset, file_length, head_types}
use Rattle.script.specs.File.{head_inputs, head_nodes, script_in}
use Rattle.script.specs.Refusals.{refused_record, counts_right, content_refusal, script_refusal, head_marked, mark_refusal, earlier, body_refusal, file_refusal}
use Rattle.script.specs.Refusals.{head_refusal}
use Rattle.file.specs.Encodable.{AllBytes, Encodable}
use Rattle.file.proofs.ByteLaws.{Stands, stands_left, stands_right, stands_both, stands_self, stands_whole, number16_at, stands16, number16_small}
use Rattle.script.proofs.RefusalLaws.{neither, no_earlier, not_refused, pass_over, no_record, or_none}
use Rattle.script.proofs.Numbered.{length_numbered}
use Rattle.file.proofs.RecordLaws.{read_from, wrong_mark, records_length, records_read, records_marked, records_written, records_fit}
use Rattle.file.proofs.Layouts.{begins_marked, mark_stands, type_layout, input_layout, node_layout}

-- ---- the length

head_length : (s : Script) → length (head_bytes s) ≡ 8
unfolding head_bytes ascii bytes16
head_length s = refl

-- The file of a script is as long as its counts say.
pub file_length_lem :
    (s : Script) → length (file_bytes s) ≡ file_length (length s.types) (length s.inputs) (length s.nodes)
unfolding file_bytes file_length node_offset
file_length_lem s =
    simp (length-append, records_length type_layout, records_length input_layout, records_length node_layout, head_length s)
    (omega arith)

-- ---- what was written is read

module _ (s : Script) (fit : Encodable s) where
  -- where the parts stand
  from_types :
      Stands (file_bytes s) 8
      (records type_bytes s.types ++ (records input_bytes s.inputs ++ records node_bytes s.nodes))
  unfolding file_bytes
  from_types = stands_right (head_bytes s) _ (stands_self (file_bytes s)) 8 (omega (arith, head_length s))

  from_inputs :
      Stands (file_bytes s) (8 + 6 * length s.types) (records input_bytes s.inputs ++ records node_bytes s.nodes)
  from_inputs =
      stands_right (records type_bytes s.types) _ from_types (8 + 6 * length s.types)
      (omega (arith, records_length type_layout s.types))

  from_nodes : Stands (file_bytes s) (8 + 6 * length s.types + 4 * length s.inputs) (records node_bytes s.nodes)
  from_nodes =
      stands_right (records input_bytes s.inputs) (records node_bytes s.nodes) from_inputs
      (8 + 6 * length s.types + 4 * length s.inputs) (omega (arith, records_length input_layout s.inputs))

  the_head : Stands (file_bytes s) 0 (head_bytes s)
  unfolding file_bytes
  the_head = stands_left (head_bytes s) _ (stands_self (file_bytes s))

  head_right_lem : head_marked (file_bytes s) 0 ≡ true
  unfolding head_bytes ascii
  head_right_lem = begins_marked the_head

  -- the counts in the head
  from_counts :
      Stands (file_bytes s) 2 (bytes16 (length s.types) ++ (bytes16 (length s.inputs) ++ bytes16 (length s.nodes)))
  unfolding head_bytes ascii
  from_counts = stands_right (ascii "HD") _ the_head 2 refl

  from_input_count : Stands (file_bytes s) 4 (bytes16 (length s.inputs) ++ bytes16 (length s.nodes))
  unfolding bytes16
  from_input_count = stands_right (bytes16 (length s.types)) _ from_counts 4 refl

  types_count : head_types (file_bytes s) ≡ length s.types
  unfolding head_types
  types_count = number16_at (stands_left (bytes16 (length s.types)) _ from_counts) fit.type_count

  inputs_count : head_inputs (file_bytes s) ≡ length s.inputs
  unfolding head_inputs
  inputs_count = number16_at (stands_left (bytes16 (length s.inputs)) _ from_input_count) fit.input_count

  nodes_count : head_nodes (file_bytes s) ≡ length s.nodes
  unfolding head_nodes bytes16
  nodes_count =
      number16_at (stands_right (bytes16 (length s.inputs)) (bytes16 (length s.nodes)) from_input_count 6 refl) fit.node_count

  -- Reading what was written gives the same script.
  pub read_written : script_in (file_bytes s) ≡ s
  unfolding script_in type_offset input_offset node_offset node_at
  read_written =
      λ x. record { types = types x; inputs = inputs x; nodes = nodes x }
    where
      types : read_from type_layout (file_bytes s) 8 (head_types (file_bytes s)) ≡ s.types
      types = rw types_count (records_read type_layout 8 s.types (stands_left (records type_bytes s.types) _ from_types) fit.types)

      inputs : read_from input_layout (file_bytes s) (8 + 6 * head_types (file_bytes s)) (head_inputs (file_bytes s)) ≡ s.inputs
      inputs = rw (types_count, inputs_count) (records_read input_layout (8 + 6 * length s.types) s.inputs (stands_left (records
          input_bytes s.inputs) _ from_inputs) fit.inputs)

      nodes : read_from node_layout (file_bytes s) (8 + 6 * head_types (file_bytes s) + 4 * head_inputs (file_bytes s)) (head_nodes (file_bytes s)) ≡ s.nodes
      nodes = rw (types_count, inputs_count, nodes_count) (records_read node_layout (8 + 6 * length s.types + 4 * length s.inputs) s.nodes from_nodes fit.nodes)

  -- the marks of the records
  marks_right : mark_refusal (file_bytes s) (length s.types) (length s.inputs) (length s.nodes) ≡ none
  unfolding mark_refusal type_offset input_offset node_offset refused_record or_else
  marks_right =
      rw (
        records_marked type_layout 8 s.types (stands_left (records type_bytes s.types) _ from_types),
        records_marked input_layout (8 + 6 * length s.types) s.inputs
            (stands_left (records input_bytes s.inputs) _ from_inputs),
        records_marked node_layout (8 + 6 * length s.types + 4 * length s.inputs) s.nodes from_nodes,
      )

  body_refusal_lem : body_refusal (file_bytes s) ≡ or_else (content_refusal s) (structure_refusal s)
  unfolding body_refusal earlier
  body_refusal_lem =
      let marks : mark_refusal (file_bytes s) (head_types (file_bytes s)) (head_inputs (file_bytes s)) (head_nodes (file_bytes s)) ≡ none =
      rw (types_count, inputs_count, nodes_count) marks_right in
      λ x. or_else (earlier (marks x) (content_refusal (read_written x))) (structure_refusal (read_written x))

  long : 8 ≤ length (file_bytes s)
  unfolding file_length node_offset
  long = omega (arith, file_length_lem s)

  size_right :
      length (file_bytes s) ≡ file_length (head_types (file_bytes s)) (head_inputs (file_bytes s)) (head_nodes (file_bytes s))
  size_right = rw (types_count, inputs_count, nodes_count) (file_length_lem s)

  size_passes :
      refused_unless
      (eqb (length (file_bytes s)) (file_length (head_types (file_bytes s)) (head_inputs (file_bytes s)) (head_nodes (file_bytes s)))) 1 (length (file_bytes s))
      ≡ none
  unfolding refused_unless
  size_passes = rw (eq-eqb _ _ size_right)

  head_refusal_lem : head_refusal (file_bytes s) ≡ refused_unless (counts_right (length s.types) (length s.inputs) (length s.nodes)) 3 0
  unfolding head_refusal
  head_refusal_lem =
      pass_over 1 (length (file_bytes s)) _ (le-leb 8 (length (file_bytes s)) long)
      ∙ pass_over 2 0 _ head_right_lem
      ∙ (λ x. or_else (refused_unless (counts_right (types_count x) (inputs_count x) (nodes_count x)) 3 0) (size_passes x))
      ∙ or_none _

  -- The file of a script is refused as the script is: tables whose file the reader would refuse give that refusal.
  pub file_refusal_lem : file_refusal (file_bytes s) ≡ script_refusal s
  unfolding file_refusal script_refusal
  file_refusal_lem = λ x. or_else (head_refusal_lem x) (body_refusal_lem x)

-- ---- what was read is written

-- what no refusal says of the bytes: their marks and their length are right
record RightBytes (bs : List ℕ) : Type 0 where
  head : head_marked bs 0 ≡ true
  size : length bs ≡ file_length (head_types bs) (head_inputs bs) (head_nodes bs)
  types : wrong_mark type_layout bs 8 (head_types bs) ≡ none
  inputs : wrong_mark input_layout bs (8 + 6 * head_types bs) (head_inputs bs) ≡ none
  nodes : wrong_mark node_layout bs (8 + 6 * head_types bs + 4 * head_inputs bs) (head_nodes bs) ≡ none

right_bytes : (bs : List ℕ) → file_refusal bs ≡ none → RightBytes bs
unfolding file_refusal head_refusal body_refusal mark_refusal type_offset input_offset node_offset
right_bytes bs e =
    let (h, b) = neither _ _ e in
    let after-length = neither _ _ (neither _ _ h).1 in
    let after-counts = (neither _ _ after-length.1).1 in
    let marks = neither _ _ (no_earlier _ _ (neither _ _ b).0).0 in
    let later = neither _ _ marks.1 in
    record {
      head = not_refused _ _ _ after-length.0;
      size = eqb-true _ _ (not_refused _ _ _ after-counts);
      types = no_record _ _ _ marks.0;
      inputs = no_record _ _ _ later.0;
      nodes = no_record _ _ _ later.1;
    }

pub script_counts :
    (bs : List ℕ) →
    (length (script_in bs).types ≡ head_types bs) × (length (script_in bs).inputs ≡ head_inputs bs) × (length (script_in bs).nodes ≡ head_nodes bs)
unfolding script_in
script_counts bs = (length_numbered _ 0 (head_types bs), length_numbered _ 0 (head_inputs bs), length_numbered _ 0 (head_nodes bs))

module _ (bs : List ℕ) (all : AllBytes bs) (right : RightBytes bs) where
  head_written : Stands bs 0 (head_bytes (script_in bs))
  unfolding head_bytes ascii bytes16 head_types head_inputs head_nodes
  head_written =
      rw ((script_counts bs).0, (script_counts bs).1, (script_counts bs).2)
      (stands_both (ascii "HD") _ (mark_stands 72 68 right.head) 2 refl
      (stands_both (bytes16 (head_types bs)) _ (stands16 all 2) 4 refl
      (stands_both (bytes16 (head_inputs bs)) _ (stands16 all 4) 6 refl (stands16 all 6))))

  written : file_bytes (script_in bs) ≡ bs
  unfolding file_bytes script_in type_offset input_offset node_offset
  written =
      let types = read_from type_layout bs 8 (head_types bs) in
      let inputs = read_from input_layout bs (8 + 6 * head_types bs) (head_inputs bs) in
      let nodes = read_from node_layout bs (8 + 6 * head_types bs + 4 * head_inputs bs) (head_nodes bs) in
      stands_whole
      (stands_both (head_bytes (script_in bs)) _ head_written 8 (omega (arith, head_length (script_in bs)))
      (stands_both (records type_bytes types) _ (records_written type_layout 8 (head_types bs) all right.types)
      (8 + 6 * head_types bs) (omega (arith, records_length type_layout types, (script_counts bs).0))
      (stands_both (records input_bytes inputs) (records node_bytes nodes)
      (records_written input_layout (8 + 6 * head_types bs) (head_inputs bs) all right.inputs)
      (8 + 6 * head_types bs + 4 * head_inputs bs) (omega (arith, records_length input_layout inputs, (script_counts bs).1))
      (records_written node_layout (8 + 6 * head_types bs + 4 * head_inputs bs) (head_nodes bs) all right.nodes))))
      (file_length_lem (script_in bs) ∙ rw ((script_counts bs).0, (script_counts bs).1, (script_counts bs).2) (sym right.size))

-- ---- the theorems

-- What bytes hold fits the file's widths.
pub read_fits : (bs : List ℕ) → AllBytes bs → Encodable (script_in bs)
unfolding script_in type_offset input_offset node_offset node_at head_types head_inputs head_nodes
read_fits bs all =
    record {
      type_count = rw length_numbered (number16_small all 2);
      input_count = rw length_numbered (number16_small all 4);
      node_count = rw length_numbered (number16_small all 6);
      types = records_fit type_layout 8 (head_types bs) all;
      inputs = records_fit input_layout (8 + 6 * head_types bs) (head_inputs bs) all;
      nodes = records_fit node_layout (8 + 6 * head_types bs + 4 * head_inputs bs) (head_nodes bs) all;
    }

-- Writing what was read, from bytes that no refusal holds of, gives the same bytes.
pub written_read : (bs : List ℕ) → AllBytes bs → file_refusal bs ≡ none → file_bytes (script_in bs) ≡ bs
written_read bs all e = written bs all (right_bytes bs e)

-- The script of bytes that no refusal holds of is refused by nothing.
pub script_passes : (bs : List ℕ) → AllBytes bs → file_refusal bs ≡ none → script_refusal (script_in bs) ≡ none
script_passes bs all e = sym (file_refusal_lem (script_in bs) (read_fits bs all)) ∙ ap file_refusal (written_read bs all e) ∙ e

-- Each script has one file: two files that no refusal holds of and that hold the same script are the same bytes.
pub one_file :
    (bs cs : List ℕ) → AllBytes bs → AllBytes cs → file_refusal bs ≡ none → file_refusal cs ≡ none
    → script_in bs ≡ script_in cs → bs ≡ cs
one_file bs cs ball call be ce e = sym (written_read bs ball be) ∙ ap file_bytes e ∙ written_read cs call ce
