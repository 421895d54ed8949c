-- `script::place::nodes_end` meets its contract. Assumes nothing.
use native.Mathlib.Omega.{arith}
use Rattle.script.specs.File.{node_offset}
use Rattle.script.proofs.place.nodes_end.Goals as goal

pub returns : goal.returns
unfolding node_offset
returns c = omega arith
