-- `report::stage::run_given` meets its contract: its store suffices. Assumes nothing.
use mathlib.Core.Path.{refl}
use native.Mathlib.Omega.{arith}
use lib.ListN.{length-take}
use lib.IntN.{ℤ}
use Rattle.lambdamix.specs.Limits.{max_inputs, max_fuel}
use Rattle.streams.specs.Given.{program_settings}
use Rattle.streams.proofs.Splitting.{given_most}
use Rattle.report.proofs.Answering.{runs_given}
use Rattle.report.proofs.stage.run_given.Goals as goal

pub slice_bounds-numbers-end : goal.slice_bounds-numbers-end
unfolding program_settings max_inputs
slice_bounds-numbers-end c =
    omega (arith, c.settings_given-count.ensures.value, given_most c.args.rest.now, c.settings_given-count.auto)

pub slice_bounds-run-end : goal.slice_bounds-run-end
unfolding program_settings max_inputs
slice_bounds-run-end c =
    omega (arith, c.settings_given-count.ensures.value, given_most c.args.rest.now, c.settings_given-count.auto, length-take {A = ℤ})

pub returns : goal.returns
unfolding max_fuel max_inputs program_settings
returns c =
    runs_given _ _ c.settings_given-count.ensures.value (omega arith) (omega arith) c.settings_given-count.ensures.settings_after refl c.run.ensures
