-- `tables::content::first_bad_node` meets its contract: the loop searches, and packs the nodes before j. Assumes nothing.
use mathlib.Core.Path.{◌≡◌}
use lib.ListN.{length}
use Rattle.script.specs.Refusals.{node_fits}
use Rattle.script.specs.Tables.{tables_in, row_node}
use Rattle.script.specs.Words.{Packed}
use Rattle.script.proofs.Searching.{Searching}
use Rattle.tables.proofs.content.first_bad_node.Given as goal

abbrev pub invariant-loop-j : goal.invariant-loop-j
invariant-loop-j l =
    Searching (node_fits l.n.types l.n.inputs (row_node (tables_in l.columns))) l.j l.n.nodes
    × (Packed l.j (row_node (tables_in l.columns)) l.words × (length l.words ≡ length l.initial.words))
