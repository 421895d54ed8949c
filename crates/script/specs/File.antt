-- The script file: paper 01, "Script file". The bytes of a script are one function; what a file holds is another, total one,
-- which reads zeros past the end. Assumes nothing.
use Rattle.std.specs.Prelude.{ℕ, zero, suc, ◌+◌, ◌*◌, List, [], ◌∷◌, ◌++◌, length}
use Rattle.lambdamix.specs.Script.{Script, FunctionType, Node}
use Rattle.lambdamix.specs.Text.{ascii}
use Rattle.script.specs.Bytes.{byte_at, number16, number32, signed32, bits32, bytes16, bytes32}

-- "`HD`: count of types, of inputs, of nodes, 2 bytes each. 8 bytes in all."
unfoldable pub head_bytes : Script → List ℕ
head_bytes s = ascii "HD" ++ (bytes16 (length s.types) ++ (bytes16 (length s.inputs) ++ bytes16 (length s.nodes)))

-- "`TY`: parameter type, result type, 2 bytes each."
unfoldable pub type_bytes : FunctionType → List ℕ
type_bytes t = ascii "TY" ++ (bytes16 t.parameter ++ bytes16 t.result)

-- "`IN`: type, 2 bytes, 0 or 1."
unfoldable pub input_bytes : ℕ → List ℕ
input_bytes t = ascii "IN" ++ bytes16 t

-- "`ND`: kind (1 byte), fields a, b, c (2 bytes each), value (4 bytes, signed). 13 bytes."
unfoldable pub node_bytes : Node → List ℕ
node_bytes nd =
    ascii "ND" ++ (nd.kind ∷ (bytes16 nd.a ++ (bytes16 nd.b ++ (bytes16 nd.c ++ bytes32 (bits32 nd.value)))))

unfoldable pub records : {A : Type 0} → (A → List ℕ) → List A → List ℕ
records f [] = []
records f (x ∷ xs) = f x ++ records f xs

-- "One `HD`, then all types, inputs, nodes."
unfoldable pub file_bytes : Script → List ℕ
file_bytes s = head_bytes s ++ (records type_bytes s.types ++ (records input_bytes s.inputs ++ records node_bytes s.nodes))

-- where the records stand, given the counts of types and of inputs
unfoldable pub type_offset : ℕ → ℕ
type_offset j = 8 + 6 * j

unfoldable pub input_offset : ℕ → ℕ → ℕ
input_offset t j = 8 + 6 * t + 4 * j

unfoldable pub node_offset : ℕ → ℕ → ℕ → ℕ
node_offset t i j = 8 + 6 * t + 4 * i + 13 * j

-- the length that the counts give: where a record after the last node would stand
unfoldable pub file_length : ℕ → ℕ → ℕ → ℕ
file_length t i n = node_offset t i n

-- the counts in a head
unfoldable pub head_types : List ℕ → ℕ
head_types bs = number16 bs 2

unfoldable pub head_inputs : List ℕ → ℕ
head_inputs bs = number16 bs 4

unfoldable pub head_nodes : List ℕ → ℕ
head_nodes bs = number16 bs 6

-- n things by their numbers from j on
unfoldable pub numbered : {A : Type 0} → (ℕ → A) → ℕ → ℕ → List A
numbered f j zero = []
numbered f j (suc n) = f j ∷ numbered f (suc j) n

unfoldable pub type_from : List ℕ → ℕ → FunctionType
type_from bs o = record { parameter = number16 bs (o + 2); result = number16 bs (o + 4) }

unfoldable pub input_from : List ℕ → ℕ → ℕ
input_from bs o = number16 bs (o + 2)

unfoldable pub node_from : List ℕ → ℕ → Node
node_from bs o =
    record {
      kind = byte_at bs (o + 2);
      a = number16 bs (o + 3);
      b = number16 bs (o + 5);
      c = number16 bs (o + 7);
      value = signed32 (number32 bs (o + 9));
    }

-- t types, i inputs and n nodes, where they stand in a file
abbrev pub script_with : ℕ → ℕ → ℕ → List ℕ → Script
script_with t i n bs =
    record {
      types = numbered (λ j. type_from bs (type_offset j)) 0 t;
      inputs = numbered (λ j. input_from bs (input_offset t j)) 0 i;
      nodes = numbered (λ j. node_from bs (node_offset t i j)) 0 n;
    }

-- the script that a file with right marks and length holds
unfoldable pub script_in : List ℕ → Script
script_in bs = script_with (head_types bs) (head_inputs bs) (head_nodes bs) bs
