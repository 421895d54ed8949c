-- `walks::structure::count_nodes` meets its contract: a loop over the nodes. Assumes nothing.
use Rattle.walks.specs.Walks.{uses_below}
use Rattle.walks.proofs.UseCounts.{counted_none, counted_node}
use Rattle.walks.proofs.structure.count_nodes.Goals as goal

pub loop-i-init : goal.loop-i-init
unfolding uses_below
loop-i-init c = counted_none _

pub loop-i-preserved : goal.loop-i-preserved
loop-i-preserved c = counted_node c.args.nodes.now c.loop-i.i c.node_word.ensures c.loop-i.invariant c.count_node.ensures
