-- `script::place::file_size` meets its contract. Assumes nothing.
use native.Mathlib.Omega.{arith}
use Rattle.script.specs.File.{node_offset, file_length}
use Rattle.script.proofs.place.file_size.Goals as goal

pub returns : goal.returns
unfolding file_length node_offset
returns c = omega (arith, c.nodes_end.ensures)
