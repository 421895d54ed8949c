-- Columns: records by their numbers, each kind from its own columns alone, and whether columns are long enough. Past its end a
-- column reads zeros. Assumes nothing.
use Rattle.std.specs.Prelude.{ℕ, Bool, ◌&&◌, List, ℤ, pos, get_or, leb}
use Rattle.lambdamix.specs.Script.{FunctionType, Node}
use Rattle.lambdamix.specs.Code.{node}

abbrev pub types_in : List ℕ → List ℕ → ℕ → FunctionType
types_in ps rs j = record { parameter = get_or ps j 0; result = get_or rs j 0 }

abbrev pub inputs_in : List ℕ → ℕ → ℕ
inputs_in is j = get_or is j 0

abbrev pub nodes_in : List ℕ → List ℕ → List ℕ → List ℕ → List ℤ → ℕ → Node
nodes_in ks xs ys zs vs j = node (get_or ks j 0) (get_or xs j 0) (get_or ys j 0) (get_or zs j 0) (get_or vs j (pos 0))

-- whether columns of these lengths hold t types, i inputs and n nodes
unfoldable pub enough : ℕ → ℕ → ℕ → ℕ → ℕ → ℕ → ℕ → ℕ → ℕ → ℕ → ℕ → Bool
enough t i n ps rs is ks xs ys zs vs =
    (leb t ps && leb t rs) && (leb i is && ((leb n ks && leb n xs) && (leb n ys && (leb n zs && leb n vs))))
