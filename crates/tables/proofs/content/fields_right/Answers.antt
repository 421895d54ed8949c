-- `tables::content::fields_right` meets its contract: the fields are tested one by one. Assumes nothing.
use mathlib.Core.Path.{refl, sym, ◌∙◌}
use Rattle.tables.proofs.ContentLaws.{row_test}
use Rattle.tables.proofs.content.fields_right.Goals as goal
use Rattle.tables.proofs.content.fields_right.Goals.{then-field_right, else-field_right}

pub returns-then-field_right-2 : goal.returns-then-field_right-2
returns-then-field_right-2 c =
    elim c.if-field_right.branch [
      | then-field_right w ↦
          row_test _ _ _ _ _ _ _ _ _ c.field_right.ensures w.if-field_right.true w.field_right-then-field_right.ensures (sym w.value-is ∙ c.if-field_right-2.true)
          c.field_right-then-field_right-2.ensures refl
      | else-field_right w ↦ cc
    ]

pub returns-else-field_right-2 : goal.returns-else-field_right-2
returns-else-field_right-2 c =
    elim c.if-field_right.branch [
      | then-field_right w ↦
          c.if-field_right-2.false
          ∙ row_test _ _ _ _ _ _ _ _ _ c.field_right.ensures w.if-field_right.true w.field_right-then-field_right.ensures (sym w.value-is ∙ c.if-field_right-2.false) refl refl
      | else-field_right w ↦ w.value-is ∙ w.if-field_right.false ∙ row_test _ _ _ _ _ _ _ _ _ c.field_right.ensures w.if-field_right.false refl refl refl refl
    ]
