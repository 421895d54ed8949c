-- Refusals 1 to 8 of paper 01, "Replies without code", with number and place, as functions of the file's bytes and of a script.
-- "Order: 1 (below 8), 2 and 3 for the head, 1 for the total; records in order, mark first; 6, 7, 8". Refusals 6 to 8 are
-- `structure_refusal` of the crate `lambdamix`. Assumes nothing.
use Rattle.std.specs.Prelude.{ℕ, ◌+◌, Bool, true, false, not, ◌&&◌, ◌||◌, List, [], ◌∷◌, pos, length, get_or, leb, ltb, eqb}
use Rattle.std.proofs.Math.Option.{Option, none, some}
use Rattle.lambdamix.specs.declared.Use.{Use}
use Rattle.lambdamix.specs.declared.Use.TheVariants.{Nothing, Name, Binder, Child, ParameterType, Operation}
use Rattle.lambdamix.specs.Limits.{max_types, max_inputs, max_nodes}
use Rattle.lambdamix.specs.Arithmetic.{eq_z}
use Rattle.lambdamix.specs.Script.{Script, FunctionType, Node, row_of, fields, node_at}
use Rattle.lambdamix.specs.Types.{blank_type}
use Rattle.lambdamix.specs.Refusal.{Refusal, first_failing, or_else, refused_unless}
use Rattle.lambdamix.specs.Structure.{structure_refusal}
use Rattle.script.specs.Bytes.{byte_at}
use Rattle.script.specs.File.{type_offset, input_offset, node_offset, file_length, head_types, head_inputs, head_nodes, script_in}

-- the first record that fails a test is refused at its offset
unfoldable pub refused_record : ℕ → (ℕ → ℕ) → Option ℕ → Option Refusal
refused_record k offset none = none
refused_record k offset (some j) = some (record { number = k; place = offset j })

-- "3: a count outside its limit [0]": "64 listed types, 16 inputs, 1 to 4,096 nodes"
unfoldable pub counts_right : ℕ → ℕ → ℕ → Bool
counts_right t i n = leb t max_types && (leb i max_inputs && (leb 1 n && leb n max_nodes))

unfoldable pub same_pair : FunctionType → FunctionType → Bool
same_pair t u = eqb t.parameter u.parameter && eqb t.result u.result

-- record i has another pair than record j
unfoldable pub other_pair : (ℕ → FunctionType) → ℕ → ℕ → Bool
other_pair f j i = not (same_pair (f i) (f j))

unfoldable pub is_none : Option ℕ → Bool
is_none none = true
is_none (some i) = false

-- "Both parts are below the record's own number. No pair is listed twice": record j of the records f; the later of two is refused
unfoldable pub type_fits : (ℕ → FunctionType) → ℕ → Bool
type_fits f j =
    ltb (f j).parameter (2 + j) && (ltb (f j).result (2 + j) && is_none (first_failing (other_pair f j) 0 j))

-- "type, 2 bytes, 0 or 1"
unfoldable pub input_fits : (ℕ → ℕ) → ℕ → Bool
input_fits f j = leb (f j) 1

-- a field of node j by its use, given the counts of types and of inputs: "A child's number is below its parent's." "Binder
-- names are n or more". "Unused fields are 0." A variable's name is any: that it is bound is refusal 8.
unfoldable pub field_right : ℕ → ℕ → ℕ → Use → ℕ → Bool
field_right t n j Nothing f = eqb f 0
field_right t n j Name f = true
field_right t n j Binder f = leb n f
field_right t n j Child f = ltb f j
field_right t n j ParameterType f = ltb f (2 + t)
field_right t n j Operation f = ltb f 6

unfoldable pub fields_right : ℕ → ℕ → ℕ → List Use → List ℕ → Bool
fields_right t n j [] fs = true
fields_right t n j (u ∷ us) [] = true
fields_right t n j (u ∷ us) (f ∷ fs) = field_right t n j u f && fields_right t n j us fs

-- "5: a bad node: kind, child, name, type, operator or unused field"; the value is a field of kind 0
unfoldable pub node_fits : ℕ → ℕ → (ℕ → Node) → ℕ → Bool
node_fits t n f j =
    ltb (f j).kind 13
    && (fields_right t n j (row_of (f j)).uses (fields (f j)) && (eqb (f j).kind 0 || eq_z (f j).value (pos 0)))

-- "4: a bad type or input record [its offset]. 5: a bad node [its offset]", in the order of the records: t types, i inputs and
-- n nodes, each given by its number
unfoldable pub content_of : ℕ → ℕ → ℕ → (ℕ → FunctionType) → (ℕ → ℕ) → (ℕ → Node) → Option Refusal
content_of t i n types inputs nodes =
    or_else (refused_record 4 type_offset (first_failing (type_fits types) 0 t))
    (or_else (refused_record 4 (input_offset t) (first_failing (input_fits inputs) 0 i))
    (refused_record 5 (node_offset t i) (first_failing (node_fits t i nodes) 0 n)))

unfoldable pub content_refusal : Script → Option Refusal
content_refusal s =
    content_of (length s.types) (length s.inputs) (length s.nodes) (λ j. get_or s.types j blank_type)
    (λ j. get_or s.inputs j 0) (node_at s)

-- refusals 3 to 8 of a script
unfoldable pub script_refusal : Script → Option Refusal
script_refusal s =
    or_else (refused_unless (counts_right (length s.types) (length s.inputs) (length s.nodes)) 3 0)
    (or_else (content_refusal s) (structure_refusal s))

-- the mark "given as letters" at offset o
unfoldable pub marked : ℕ → ℕ → List ℕ → ℕ → Bool
marked x y bs o = eqb (byte_at bs o) x && eqb (byte_at bs (o + 1)) y

abbrev pub head_marked : List ℕ → ℕ → Bool
head_marked = marked 72 68

abbrev pub type_marked : List ℕ → ℕ → Bool
type_marked = marked 84 89

abbrev pub input_marked : List ℕ → ℕ → Bool
input_marked = marked 73 78

abbrev pub node_marked : List ℕ → ℕ → Bool
node_marked = marked 78 68

-- "2: a wrong mark [its offset]", in the order of the records after the head, given the counts
unfoldable pub mark_refusal : List ℕ → ℕ → ℕ → ℕ → Option Refusal
mark_refusal bs t i n =
    or_else (refused_record 2 type_offset (first_failing (λ j. type_marked bs (type_offset j)) 0 t))
    (or_else (refused_record 2 (input_offset t) (first_failing (λ j. input_marked bs (input_offset t j)) 0 i))
    (refused_record 2 (node_offset t i) (first_failing (λ j. node_marked bs (node_offset t i j)) 0 n)))

unfoldable pub earlier_by : Bool → Refusal → Refusal → Option Refusal
earlier_by true e f = some e
earlier_by false e f = some f

-- "records in order, mark first": of a wrong mark and a bad record the one at the lower offset, the mark at one record
unfoldable pub earlier : Option Refusal → Option Refusal → Option Refusal
earlier none r = r
earlier (some e) none = some e
earlier (some e) (some f) = earlier_by (leb e.place f.place) e f

-- refusals 2 to 8 of a file whose head is right
unfoldable pub body_refusal : List ℕ → Option Refusal
body_refusal bs =
    or_else (earlier (mark_refusal bs (head_types bs) (head_inputs bs) (head_nodes bs)) (content_refusal (script_in bs)))
    (structure_refusal (script_in bs))

-- "1 (below 8), 2 and 3 for the head, 1 for the total"
unfoldable pub head_refusal : List ℕ → Option Refusal
head_refusal bs =
    or_else (refused_unless (leb 8 (length bs)) 1 (length bs))
    (or_else (refused_unless (head_marked bs 0) 2 0)
    (or_else (refused_unless (counts_right (head_types bs) (head_inputs bs) (head_nodes bs)) 3 0)
    (refused_unless (eqb (length bs) (file_length (head_types bs) (head_inputs bs) (head_nodes bs))) 1 (length bs))))

-- Refusals 1 to 8 of a file. "1: below 8 bytes, or a length other than the counts give [length]."
unfoldable pub file_refusal : List ℕ → Option Refusal
file_refusal bs = or_else (head_refusal bs) (body_refusal bs)
