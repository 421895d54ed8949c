-- The proof of the cycle of calls that measures heights. A child's number is below its parent's. Each arm of the match reads the row of its own kind. Assumes
-- nothing.
use mathlib.Core.Path.{sym, ◌∙◌}
use native.Mathlib.Omega.{arith}
use Rattle.walks.proofs.OwnRow.{own_children, no_children}
use Rattle.walks.proofs.Heights as heights
use Rattle.walks.proofs.Heights.{height_node, over_none, over_child, over_other, over_fields, height_stray}
use Rattle.walks.proofs.structure.+heights.Goals as goal

pub height-returns : goal.height-returns
height-returns t c = height_node c.args.nodes.now.now _ c.node_word.ensures c.height_children-p.ensures c.height_over.ensures

pub height_child-returns-then-m-i : goal.height_child-returns-then-m-i
height_child-returns-then-m-i t c = heights.height_child _ _ c.if-m-i.true c.height.ensures

pub height_child-returns : goal.height_child-returns
height_child-returns t c = height_stray _ _ c.if-m-i.false

pub height_children-returns-in_default : goal.height_children-returns-in_default
height_children-returns-in_default t c = over_none _ _ (no_children _ c.kind.ensures (omega arith))

pub height_field-returns-then-is_child : goal.height_field-returns-then-is_child
height_field-returns-then-is_child t c = over_child _ _ _ (sym c.is_child.ensures ∙ c.if-is_child.true) c.height_child.ensures

pub height_field-returns : goal.height_field-returns
height_field-returns t c = over_other _ _ _ (sym c.is_child.ensures ∙ c.if-is_child.false)

pub height_fields-returns : goal.height_fields-returns
height_fields-returns t c =
    rw (← c.field_a.ensures, ← c.field_b.ensures, ← c.field_c.ensures)
    (over_fields _ _ _ _ _ _ c.height_field-p.ensures c.height_field-q.ensures c.height_field.ensures c.height_join.ensures c.height_join-2.ensures)
