-- `emission::emit::emit_root` meets its contract: past the end stands a constant (`code_past`), else the cell's code is written. Assumes nothing.
use native.Mathlib.Omega.{arith}
use Rattle.lambdamix.specs.Limits.{max_nodes}
use Rattle.emission.proofs.emit.emit_root.Goals as goal

pub emit_constant-requires : goal.emit_constant-requires
unfolding max_nodes
emit_constant-requires c = (c.requires.0, omega arith)
