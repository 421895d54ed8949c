-- `walks::structure::first_misused_of` meets its contract: a capped count is one where the node is used once. Assumes nothing.
use mathlib.Core.Path.{◌∙◌}
use native.Mathlib.Omega.{arith}
use Rattle.walks.specs.Walks.{used_once_at}
use Rattle.script.proofs.Searching.{first_same}
use Rattle.walks.proofs.UseCounts.{counted_once}
use Rattle.walks.proofs.structure.first_misused_of.Goals as goal

pub returns : goal.returns
unfolding used_once_at
returns g c = c.first_not_one.ensures ∙ first_same _ _ 0 _ (λ j l. counted_once _ _ _ c.count_nodes.ensures j (omega arith))
