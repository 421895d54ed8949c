-- `emission::emit::emit_constant` meets its contract: one node behind the other. Assumes nothing.
use native.Mathlib.Omega.{arith}
use mir.Facts.{to_z-of_z}
use Rattle.lambdamix.specs.Limits.{max_nodes}
use Rattle.emission.proofs.Emission.{emits_lit}
use Rattle.emission.proofs.emit.emit_constant.Goals as goal

pub returns : goal.returns
returns c =
    emits_lit c.args.base c.args.k.0 c.args.z c.requires.1 (rw (to_z-of_z c.ranges.z) at c.emit_node.ensures) c.emit_node-2.ensures

pub overflow_add-next : goal.overflow_add-next
unfolding max_nodes
overflow_add-next c = omega (arith, c.requires.1)
