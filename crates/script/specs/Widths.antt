-- The widths of what is lent and of what a file holds: paper 01, "Script file": counts, types and fields of 2 bytes, a kind of
-- 1 byte, values of 4 bytes, signed. Assumes nothing.
use Rattle.std.specs.Prelude.{ℕ, ◌<◌, List, ℤ, pos, get_or}
use Rattle.lambdamix.specs.Arithmetic.{Fits32}
use Rattle.lambdamix.specs.Script.{FunctionType, Node}
use Rattle.script.specs.Tables.{Tables, row_type, row_input, row_node}

-- every number of the list, and what is read past its end, is below this
abbrev pub AllBelow : ℕ → List ℕ → Type 0
AllBelow b xs = (j : ℕ) → get_or xs j 0 < b

-- every number of the list has 32 bits
pub record AllFit (zs : List ℤ) : Type 0 where
  pub fits : (j : ℕ) → Fits32 (get_or zs j (pos 0))

pub record EncodableType (t : FunctionType) : Type 0 where
  pub parameter : t.parameter < 65536
  pub result : t.result < 65536

pub record EncodableNode (d : Node) : Type 0 where
  pub kind : d.kind < 256
  pub a : d.a < 65536
  pub b : d.b < 65536
  pub c : d.c < 65536
  pub value : Fits32 d.value

-- counts of 16 bits and tables as a caller lends them: columns of 16 bits but for the kinds, of 8, and the values, of 32, signed;
-- past the end stand zeros
pub record LentTables (t i n : ℕ) (x : Tables) : Type 0 where
  pub type_count : t < 65536
  pub input_count : i < 65536
  pub node_count : n < 65536
  pub types : (j : ℕ) → EncodableType (row_type x j)
  pub inputs : (j : ℕ) → row_input x j < 65536
  pub nodes : (j : ℕ) → EncodableNode (row_node x j)
