-- `walks::structure::height_join` meets its contract: two heights, two places, or one of each. Assumes nothing.
use native.Mathlib.Omega.{arith}
use Rattle.lambdamix.specs.Limits.{max_height}
use Rattle.walks.proofs.Heights.{join_heights, join_places}
use Rattle.walks.proofs.structure.height_join.Goals as goal

pub returns-then-least-le-HIGHEST : goal.returns-then-least-le-HIGHEST
unfolding max_height
returns-then-least-le-HIGHEST c = join_heights c.max.ensures (omega arith)

pub returns-else-least-le-HIGHEST : goal.returns-else-least-le-HIGHEST
unfolding max_height
returns-else-least-le-HIGHEST c = join_places c.min-least.ensures (omega arith)
