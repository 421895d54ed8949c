-- `walks::structure::height_over` meets its contract: the node's own height, and the lower of the places. Assumes nothing.
use native.Mathlib.Omega.{arith}
use Rattle.lambdamix.specs.Limits.{max_height}
use Rattle.walks.proofs.Heights.{node_low, node_crosses, node_passes_on, node_keeps_own}
use Rattle.walks.proofs.structure.height_over.Goals as goal
use Rattle.walks.proofs.structure.height_over.Goals.{else-p-gt-HIGHEST-via-then-p-gt-HIGHEST+else-p-own, else-p-gt-HIGHEST-via-else-p-gt-HIGHEST}

pub returns-then-p-lt-HIGHEST : goal.returns-then-p-lt-HIGHEST
unfolding max_height
returns-then-p-lt-HIGHEST c = node_low (omega arith)

pub returns-then-p-own : goal.returns-then-p-own
unfolding max_height
returns-then-p-own c = node_passes_on (omega arith) (omega arith)

pub returns : goal.returns
unfolding max_height
returns c =
    elim c.else-p-gt-HIGHEST.branch [
      | else-p-gt-HIGHEST-via-then-p-gt-HIGHEST+else-p-own w ↦ node_keeps_own (omega arith) (omega arith) (omega arith)
      | else-p-gt-HIGHEST-via-else-p-gt-HIGHEST w ↦ node_crosses (omega arith) (omega arith) (omega arith)
    ]
