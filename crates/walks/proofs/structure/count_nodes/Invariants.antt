-- `walks::structure::count_nodes` meets its contract. The invariant: the uses by the nodes before i are counted. Assumes nothing.
use Rattle.script.specs.Words.{columns_in}
use Rattle.walks.specs.Walks.{uses_below, Counted}
use Rattle.walks.proofs.structure.count_nodes.Given as goal

abbrev pub invariant-loop-i : goal.invariant-loop-i
invariant-loop-i l = Counted (uses_below (columns_in l.nodes) l.i) l.initial.counts l.counts
