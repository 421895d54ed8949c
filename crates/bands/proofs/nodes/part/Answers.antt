-- `bands::nodes::part` meets its contract: by the number of the part. Assumes nothing.
use mathlib.Core.Path.{ap, ◌∙◌}
use lib.IntN.{ℤ}
use mir.Facts.{to_z-of_z}
use Rattle.lambdamix.specs.Code.{node}
use Rattle.bands.proofs.Numbering.{input_part, low_part, less_part, grade_part, lift_part}
use Rattle.bands.proofs.nodes.part.Goals as goal

pub returns-in-0 : goal.returns-in-0
returns-in-0 c = input_part _ _ _ _ c.in-0.is c.variable.ensures

pub returns-in-1 : goal.returns-in-1
returns-in-1 c = low_part _ _ _ _ c.in-1.is (c.constant.ensures ∙ ap (λ (z : ℤ). node 0 0 0 0 z) (to_z-of_z c.ranges.low))

pub returns-in-3 : goal.returns-in-3
returns-in-3 c = less_part _ _ _ _ c.in-3.is c.less.ensures

pub returns-in-4 : goal.returns-in-4
returns-in-4 c = grade_part _ _ _ _ c.in-4.is (c.constant-in-4.ensures ∙ ap (λ (z : ℤ). node 0 0 0 0 z) (to_z-of_z c.ranges.grade))

pub returns-in_default : goal.returns-in_default
returns-in_default c =
    lift_part _ _ _ _ c.in_default.in_default-own.rest.0.0.0.1 c.in_default.in_default-own.rest.0.0.1 c.in_default.in_default-own.rest.0.1 c.in_default.in_default-own.rest.1 c.lift.ensures
