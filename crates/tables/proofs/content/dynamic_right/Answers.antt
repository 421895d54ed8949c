-- `tables::content::dynamic_right` meets its contract: what holds by the named row holds of the kind, which is one of five. Assumes nothing.
use mathlib.Core.Path.{refl, ◌∙◌}
use native.Mathlib.Omega.{arith}
use Rattle.tables.proofs.ContentLaws.{of_kind}
use Rattle.tables.proofs.content.dynamic_right.Goals as goal

pub returns-in-8 : goal.returns-in-8
returns-in-8 c = c.step_right.ensures ∙ of_kind _ _ _ _ _ _ _ c.step_row.ensures (omega arith) refl c.ranges.value

pub returns-in-9 : goal.returns-in-9
returns-in-9 c = c.step_right-in-9.ensures ∙ of_kind _ _ _ _ _ _ _ c.step_row-in-9.ensures (omega arith) refl c.ranges.value

pub returns-in-10 : goal.returns-in-10
returns-in-10 c = c.step_right-in-10.ensures ∙ of_kind _ _ _ _ _ _ _ c.step_row-in-10.ensures (omega arith) refl c.ranges.value

pub returns-in-11 : goal.returns-in-11
returns-in-11 c = c.step_right-in-11.ensures ∙ of_kind _ _ _ _ _ _ _ c.step_row-in-11.ensures (omega arith) refl c.ranges.value

pub returns-in_default : goal.returns-in_default
returns-in_default c =
    let o = c.in_default.in_default-own.rest in
    c.step_right-in_default.ensures ∙ of_kind _ _ _ _ _ _ _ c.step_row-in_default.ensures
    (omega (arith, c.requires, o.0.0.0.1, o.0.0.1, o.0.1, o.1)) refl
    c.ranges.value
