-- `respond::stage::make_given` meets its contract: its stores suffice. Assumes nothing.
use mathlib.Core.Path.{refl}
use native.Mathlib.Omega.{arith}
use lib.IntN.{ℤ}
use lib.ListN.{length-take}
use Rattle.lambdamix.specs.Limits.{max_inputs, program_fuel}
use Rattle.cells.specs.Room.{suffices, stores_suffice}
use Rattle.streams.specs.Given.{program_settings}
use Rattle.streams.proofs.Splitting.{given_most}
use Rattle.respond.proofs.Settings.{makes_given}
use Rattle.respond.proofs.stage.make_given.Goals as goal

pub slice_bounds-settings-end : goal.slice_bounds-settings-end
unfolding program_settings max_inputs
slice_bounds-settings-end c =
    omega (arith, c.settings_given-count.ensures.value, given_most c.args.rest.now, c.settings_given-count.auto)

pub slice_bounds-make-end : goal.slice_bounds-make-end
unfolding program_settings max_inputs
slice_bounds-make-end c =
    omega (arith, c.settings_given-count.ensures.value, given_most c.args.rest.now, c.settings_given-count.auto, length-take {A = ℤ})

pub returns : goal.returns
unfolding stores_suffice suffices program_fuel max_inputs program_settings
returns c =
    makes_given _ _ c.settings_given-count.ensures.value (omega arith) c.settings_given-count.ensures.settings_after refl c.make.ensures
