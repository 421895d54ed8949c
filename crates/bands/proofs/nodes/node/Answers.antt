-- `bands::nodes::node` meets its contract: a row before the last, the last row, an if. Assumes nothing.
use borrow.Author.Rules.{rules}
use native.Mathlib.Omega.{arith}
use Rattle.bands.specs.Rows.{max_rows}
use Rattle.bands.specs.BandScript.{band_nodes}
use Rattle.bands.proofs.Numbering.{fore_told, last_told, if_told}
use Rattle.bands.proofs.nodes.node.Goals as goal

pub first_of-after-requires : goal.first_of-after-requires
unfolding max_rows
first_of-after-requires c = omega (arith, c.requires.row_count.few)

pub returns-then-i-after : goal.returns-then-i-after
returns-then-i-after c =
    fore_told _ _ c.part.ensures (omega (arith, c.if-i-after.true, c.first_of-after.ensures)) (search rules) (search rules)

pub returns-then-i-after-2 : goal.returns-then-i-after-2
returns-then-i-after-2 c =
    last_told _ _ c.part-then-i-after-2.ensures c.first_of-after.ensures c.requires.row_count.any c.if-i-after.false c.if-i-after-2.true (search rules)

pub overflow_add-after-2 : goal.overflow_add-after-2
unfolding max_rows
overflow_add-after-2 c =
    omega (arith, c.first_of-after.ensures, c.requires.row_count.few)

pub overflow_add-after-3 : goal.overflow_add-after-3
unfolding max_rows
overflow_add-after-3 c =
    omega (arith, c.first_of-after.ensures, c.requires.row_count.few)

pub overflow_sub-after : goal.overflow_sub-after
unfolding band_nodes
overflow_sub-after c =
    omega (arith, c.first_of-after.ensures, c.requires.i_bound, c.requires.row_count.any)

pub first_of-first-requires : goal.first_of-first-requires
unfolding max_rows
first_of-first-requires c =
    omega (arith, c.if-i-after-2.false, c.first_of-after.ensures, c.requires.row_count.few)

pub returns : goal.returns
returns c =
    if_told _ _ c.choice.ensures (omega (arith, c.first_of-first.ensures, c.first_of-after.ensures)) (omega (arith, c.if-i-after-2.false, c.first_of-after.ensures))
    c.requires.i_bound
