-- `bands::nodes::fill_nodes` meets its contract: the loop fills. Assumes nothing.
use Rattle.bands.specs.Calls.{columns_in}
use Rattle.bands.proofs.Filling.{Filling}
use Rattle.bands.proofs.nodes.fill_nodes.Given as goal

abbrev pub invariant-loop-i : goal.invariant-loop-i
invariant-loop-i l =
    Filling l.count (columns_in l.rows) l.initial.columns.kinds l.initial.columns.a l.initial.columns.b l.initial.columns.c l.initial.columns.values l.i
    l.columns.kinds l.columns.a l.columns.b l.columns.c l.columns.values
