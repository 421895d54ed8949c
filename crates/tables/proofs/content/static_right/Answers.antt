-- `tables::content::static_right` meets its contract: what holds by the named row holds of the kind, which is one of six. Assumes nothing.
use mathlib.Core.Path.{refl, ◌∙◌}
use native.Mathlib.Omega.{arith}
use Rattle.tables.proofs.ContentLaws.{of_kind}
use Rattle.tables.proofs.content.static_right.Goals as goal

pub returns-in-2 : goal.returns-in-2
returns-in-2 c = c.step_right.ensures ∙ of_kind _ _ _ _ _ _ _ c.step_row.ensures (omega arith) refl c.ranges.value

pub returns-in-3 : goal.returns-in-3
returns-in-3 c = c.step_right-in-3.ensures ∙ of_kind _ _ _ _ _ _ _ c.step_row-in-3.ensures (omega arith) refl c.ranges.value

pub returns-in-4 : goal.returns-in-4
returns-in-4 c = c.step_right-in-4.ensures ∙ of_kind _ _ _ _ _ _ _ c.step_row-in-4.ensures (omega arith) refl c.ranges.value

pub returns-in-5 : goal.returns-in-5
returns-in-5 c = c.step_right-in-5.ensures ∙ of_kind _ _ _ _ _ _ _ c.step_row-in-5.ensures (omega arith) refl c.ranges.value

pub returns-in-6 : goal.returns-in-6
returns-in-6 c = c.step_right-in-6.ensures ∙ of_kind _ _ _ _ _ _ _ c.step_row-in-6.ensures (omega arith) refl c.ranges.value

pub returns-in_default : goal.returns-in_default
returns-in_default c =
    let o = c.in_default.in_default-own.rest in
    c.step_right-in_default.ensures ∙ of_kind _ _ _ _ _ _ _ c.step_row-in_default.ensures
    (omega (arith, c.requires, o.0.0.0.0.1, o.0.0.0.1, o.0.0.1, o.0.1, o.1)) refl
    c.ranges.value
