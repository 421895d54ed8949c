-- `bands::nodes::fill_nodes` meets its contract: the loop fills. Assumes nothing.
use mathlib.Core.Path.{refl}
use native.Mathlib.Omega.{arith}
use Rattle.bands.specs.Rows.{max_rows}
use Rattle.bands.specs.BandScript.{band_nodes}
use Rattle.bands.proofs.Filling.{fill_begins, fill_goes_on, fill_ends, fill_long}
use Rattle.bands.proofs.nodes.fill_nodes.Goals as goal

pub overflow_mul-i-end : goal.overflow_mul-i-end
unfolding max_rows
overflow_mul-i-end c = omega (arith, c.requires.row_count.few)

pub loop-i-init : goal.loop-i-init
loop-i-init c = fill_begins _ _ _ _ _ _ _ c.requires.long

pub node-requires-clause-i_bound : goal.node-requires-clause-i_bound
unfolding band_nodes
node-requires-clause-i_bound c = c.loop-i-test.true

pub loop-i-preserved : goal.loop-i-preserved
unfolding band_nodes
loop-i-preserved c =
    fill_goes_on _ _ _ _ _ _ _
    c.loop-i.invariant c.loop-i-test.true refl c.node.ensures c.put.ensures

pub returns : goal.returns
unfolding band_nodes
returns c =
    record {
      held = fill_ends _ _ _ _ _ _ _ c.loop-i.invariant c.loop-i-test.false refl;
      long = fill_long _ _ _ _ _ _ _ c.loop-i.invariant;
    }
