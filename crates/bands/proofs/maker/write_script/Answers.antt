-- `bands::maker::write_script` meets its contract: by the writer's entry. Assumes nothing.
use mathlib.Core.Path.{refl}
use native.Mathlib.Omega.{arith}
use Rattle.bands.specs.Rows.{max_rows}
use Rattle.bands.specs.BandScript.{band_nodes}
use Rattle.bands.proofs.Filling.{long_by}
use Rattle.bands.proofs.Writing.{script_written}
use Rattle.bands.proofs.maker.write_script.Goals as goal

pub fill_nodes-requires-clause-long : goal.fill_nodes-requires-clause-long
fill_nodes-requires-clause-long c = long_by c.requires.count c.new-nodes.ensures

pub overflow_mul-n : goal.overflow_mul-n
unfolding max_rows
overflow_mul-n c = omega (arith, c.requires.count.few)

pub returns : goal.returns
unfolding band_nodes
returns c = script_written _ _ c.requires c.fill_nodes.ensures.held c.fill_nodes.ensures.long refl c.write.ensures
