-- `tables::content::type_right` meets its contract: the two parts, then the search for the same pair. Assumes nothing.
use mathlib.Core.Path.{refl, sym, ◌∙◌}
use native.Mathlib.Omega.{arith}
use borrow.Author.Tests.{ltb-true, ltb-false}
use Rattle.script.specs.Tables.{row_type}
use Rattle.tables.proofs.ContentLaws.{wrong_parameter, wrong_result, right_by_pairs, nothing_found}
use Rattle.tables.proofs.content.type_right.Goals as goal
use Rattle.tables.proofs.content.type_right.Goals.{then-type_at-own, else-type_at-own}

pub returns-then-type_at-own-2 : goal.returns-then-type_at-own-2
unfolding row_type
returns-then-type_at-own-2 c =
    elim c.if-type_at-own.branch [
      | then-type_at-own w ↦
          let h = ltb-true _ _ (sym w.value-is ∙ c.if-type_at-own-2.true) in
          nothing_found _ c.is_none.ensures ∙ right_by_pairs _ _ (omega arith) (omega arith) c.first_same_pair.ensures refl
      | else-type_at-own w ↦ absurd (omega (arith, ltb-true _ _ (sym w.value-is ∙ c.if-type_at-own-2.true)))
    ]

pub returns-else-type_at-own-2 : goal.returns-else-type_at-own-2
unfolding row_type
returns-else-type_at-own-2 c =
    elim c.if-type_at-own.branch [
      | then-type_at-own w ↦
          let h = ltb-false _ _ (sym w.value-is ∙ c.if-type_at-own-2.false) in
          c.if-type_at-own-2.false ∙ wrong_result _ _ (omega arith)
      | else-type_at-own w ↦ c.if-type_at-own-2.false ∙ wrong_parameter _ _ (omega arith)
    ]
