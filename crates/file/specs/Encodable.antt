-- Scripts whose parts fit the widths of the script file: paper 01, "Script file": counts, types and fields of 2 bytes, a kind
-- of 1 byte, values of 4 bytes, signed. Assumes nothing.
use Rattle.std.specs.Prelude.{ℕ, ◌<◌, List, length, get_or}
use Rattle.lambdamix.specs.Script.{Script, node_at}
use Rattle.lambdamix.specs.Types.{blank_type}
use Rattle.script.specs.Bytes.{byte_at}
use Rattle.script.specs.Widths.{EncodableType, EncodableNode}

-- every element is a byte
pub record AllBytes (bs : List ℕ) : Type 0 where
  pub below : (i : ℕ) → byte_at bs i < 256

pub record Encodable (s : Script) : Type 0 where
  pub type_count : length s.types < 65536
  pub input_count : length s.inputs < 65536
  pub node_count : length s.nodes < 65536
  pub types : (j : ℕ) → j < length s.types → EncodableType (get_or s.types j blank_type)
  pub inputs : (j : ℕ) → j < length s.inputs → get_or s.inputs j 0 < 65536
  pub nodes : (j : ℕ) → j < length s.nodes → EncodableNode (node_at s j)
