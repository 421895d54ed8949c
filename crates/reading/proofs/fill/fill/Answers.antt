-- `reading::fill::fill` meets its contract: the loop fills. Assumes nothing.
use mathlib.Core.Path.{ap, ◌∙◌}
use native.Mathlib.Omega.{arith}
use Rattle.reading.proofs.Filling.{fill_begins, fill_goes_on}
use Rattle.reading.proofs.fill.fill.Goals as goal

pub loop-j-init : goal.loop-j-init
loop-j-init g c = λ f h. fill_begins f _

pub loop-j-preserved : goal.loop-j-preserved
loop-j-preserved g c =
    λ f h.
    fill_goes_on f _ (c.loop-j.invariant f h) (omega (arith, c.requires.enough))
    (h _ _ (omega arith) c.element.ensures ∙ ap f (omega arith))
