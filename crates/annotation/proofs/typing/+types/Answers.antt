-- The proof of the cycle of calls of the walk of types: each field is answered by its use in the row, and a node by the rule of its kind. Assumes nothing.
use native.Mathlib.Omega.{arith}
use borrow.Author.Rules.{rules}
use Rattle.annotation.proofs.Recursion.{at_child_field, at_other_field, at_fields, at_constant, at_variable}
use Rattle.annotation.proofs.typing.+types.Goals as goal

pub field-returns-then-is_child : goal.field-returns-then-is_child
field-returns-then-is_child t c = search at_child_field

pub field-returns-else-is_child : goal.field-returns-else-is_child
field-returns-else-is_child t c = search at_other_field

pub fields-returns : goal.fields-returns
fields-returns t c =
    at_fields c.requires c.parameter-p.ensures (rw c.type_b.ensures) c.enter-inner.ensures (search rules) (omega (arith, c.name_a.ensures))
    c.field-e.ensures (search rules) (omega (arith, c.child_a.ensures)) c.field-f.ensures (search rules) (omega (arith, c.child_b.ensures))
    c.field-g.ensures (search rules) (omega (arith, c.child_c.ensures)) c.rule.ensures

pub node-returns-in-0 : goal.node-returns-in-0
node-returns-in-0 t c = at_constant c.node_word-w.ensures c.kind-k.ensures (omega (arith, c.in-0.is)) c.typed.ensures

pub node-returns-in-1 : goal.node-returns-in-1
node-returns-in-1 t c = at_variable c.node_word-w.ensures c.kind-k.ensures (omega (arith, c.in-1.is)) c.name_a.ensures c.variable.ensures
