-- `annotation::typing::annotation_refusal` meets its contract: the root is answered under the inputs alone, on a stack with room for
-- them and for a tree's height. Assumes nothing.
use Prim.Native.Nat.{ℕ}
use mathlib.Core.Path.{refl}
use native.Mathlib.Omega.{arith}
use lib.ListN.{length-replicate}
use Rattle.lambdamix.specs.Limits.{max_types, max_inputs, max_height}
use Rattle.annotation.specs.Walks.{stack_places}
use Rattle.annotation.proofs.Root.{at_root}
use Rattle.annotation.proofs.typing.annotation_refusal.Goals as goal

pub returns : goal.returns
unfolding max_types max_inputs max_height
returns c =
    at_root (c.pack_types.ensures refl) (λ l. c.bind_inputs.ensures (omega (arith, length-replicate {A = ℕ} stack_places 0))) (omega
    (arith, c.bind_inputs.auto, length-replicate {A = ℕ} stack_places 0)) c.root-i.ensures c.node.ensures c.verdict.ensures
