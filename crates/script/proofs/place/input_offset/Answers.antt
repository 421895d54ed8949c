-- `script::place::input_offset` meets its contract. Assumes nothing.
use native.Mathlib.Omega.{arith}
use Rattle.script.specs.File.{input_offset}
use Rattle.script.proofs.place.input_offset.Goals as goal

pub returns : goal.returns
unfolding input_offset
returns c = omega arith
