-- `script::place::type_offset` meets its contract. Assumes nothing.
use native.Mathlib.Omega.{arith}
use Rattle.script.specs.File.{type_offset}
use Rattle.script.proofs.place.type_offset.Goals as goal

pub returns : goal.returns
unfolding type_offset
returns c = omega arith
