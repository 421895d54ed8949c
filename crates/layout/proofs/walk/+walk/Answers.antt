-- The walk meets its contracts. Assumes nothing.
use borrow.Author.Rules.{rules}
use mathlib.Core.Path.{refl}
use native.Mathlib.Omega.{arith}
use mir.Syntax.{w32}
use mir.Facts.{to_z-of_z}
use Rattle.lambdamix.specs.Script.{step_of, rows}
use Rattle.lambdamix.specs.Text.{ascii}
use Rattle.lambdamix.specs.Listing.{former_text}
use Rattle.script.specs.Kinds.{use_of, uses_table}
use Rattle.script.specs.KindRows.{row_at}
use Rattle.layout.specs.Nodes.{step_word, word_of, word_text, in_brackets, framed, field_text}
use Rattle.text.proofs.Writing.{stays, join, placed_rest}
use Rattle.layout.proofs.NodeLaws.{child_placed, no_child_placed, NoneUpTo, value_kind, value_placed, bare_placed, group_placed, node_kind, named_field, no_field}
use Rattle.layout.proofs.walk.+walk.Goals as goal

pub bare-returns-in-Name : goal.bare-returns-in-Name
unfolding framed
bare-returns-in-Name t c =
    rw (named_field _ _ _ _ c.in-Name.is, ← c.field_a-x.ensures) c.name_at.ensures

pub bare-returns-in-Child : goal.bare-returns-in-Child
unfolding field_text framed
bare-returns-in-Child t c =
    rw (c.in-Child.is, ← c.field_a-x.ensures) c.child_at.ensures

pub bare-returns-in_default : goal.bare-returns-in_default
bare-returns-in_default t c =
    rw (no_field _ _ _ _ c.args.row.0 c.in_default.not-Name c.in_default.not-Binder c.in_default.not-Child) (stays (omega arith))

pub child_at-returns-then-m-i : goal.child_at-returns-then-m-i
child_at-returns-then-m-i t c =
    child_placed _ _ _ (omega (arith, c.if-m-i.true)) (placed_rest (omega (arith, c.min-from.ensures)) c.node-n.ensures c.saturating_add.ensures)

pub child_at-returns : goal.child_at-returns
child_at-returns t c = no_child_placed _ _ _ (omega (arith, c.if-m-i.false)) c.letter_at.ensures

pub group-returns : goal.group-returns
group-returns t c =
    rw (← c.field_a.ensures, ← c.field_b.ensures, ← c.field_c.ensures)
    (join (join (join c.spaced_at-one.ensures c.spaced_at-two.ensures) c.spaced_at-three.ensures) c.letter_at.ensures)

pub spaced_at-returns-in-Name : goal.spaced_at-returns-in-Name
unfolding field_text framed
spaced_at-returns-in-Name t c =
    rw c.in-Name.is (join c.letter_at-next.ensures c.name_at.ensures)

pub spaced_at-returns-in-Binder : goal.spaced_at-returns-in-Binder
unfolding field_text framed
spaced_at-returns-in-Binder t c =
    rw c.in-Binder.is (join c.letter_at-next-in-Binder.ensures c.name_at-in-Binder.ensures)

pub spaced_at-returns-in-Child : goal.spaced_at-returns-in-Child
unfolding field_text framed
spaced_at-returns-in-Child t c =
    rw c.in-Child.is (join c.letter_at-next-in-Child.ensures c.child_at.ensures)

pub spaced_at-returns-in_default : goal.spaced_at-returns-in_default
spaced_at-returns-in_default t c =
    rw (no_field _ _ _ _ c.args.u c.in_default.not-Name c.in_default.not-Binder c.in_default.not-Child) (stays (omega arith))

pub operation-returns : goal.operation-returns
operation-returns t c =
    join (rw c.field_c.ensures at c.put_sign-head.ensures) c.group.ensures

pub worded-returns : goal.worded-returns
worded-returns t c = join c.text_at-head.ensures c.group.ensures

pub node-returns-in-1 : goal.node-returns-in-1
unfolding word_of step_of step_word rows row_at use_of uses_table
node-returns-in-1 t c =
    bare_placed c.args.inputs c.args.nodes.now.now c.args.i.0 1 (node_kind c.kind.ensures c.node_word-w.ensures) (omega arith) refl refl c.step_row.ensures (rw c.node_word-w.ensures at c.bare.ensures)

pub node-returns-in-2 : goal.node-returns-in-2
unfolding word_of step_of step_word rows row_at use_of uses_table
node-returns-in-2 t c =
    bare_placed c.args.inputs c.args.nodes.now.now c.args.i.0 2 (node_kind c.kind.ensures c.node_word-w.ensures) (omega arith) refl refl c.step_row-in-2.ensures (rw c.node_word-w.ensures at c.bare-in-2.ensures)

pub node-returns-in-3 : goal.node-returns-in-3
unfolding word_of step_of step_word rows row_at use_of uses_table word_text in_brackets former_text ascii
node-returns-in-3 t c =
    group_placed c.args.inputs c.args.nodes.now.now c.args.i.0 3 (node_kind c.kind.ensures c.node_word-w.ensures) (omega arith) refl refl refl c.step_row-in-3.ensures
    (rw c.node_word-w.ensures at c.worded.ensures)

pub node-returns-in-4 : goal.node-returns-in-4
unfolding word_of step_of step_word rows row_at use_of uses_table word_text in_brackets former_text ascii
node-returns-in-4 t c =
    group_placed c.args.inputs c.args.nodes.now.now c.args.i.0 4 (node_kind c.kind.ensures c.node_word-w.ensures) (omega arith) refl refl refl c.step_row-in-4.ensures
    (rw c.node_word-w.ensures at c.worded-in-4.ensures)

pub node-returns-in-5 : goal.node-returns-in-5
unfolding word_of step_of step_word rows row_at use_of uses_table word_text in_brackets former_text ascii
node-returns-in-5 t c =
    group_placed c.args.inputs c.args.nodes.now.now c.args.i.0 5 (node_kind c.kind.ensures c.node_word-w.ensures) (omega arith) refl refl refl c.step_row-in-5.ensures
    (rw c.node_word-w.ensures at c.worded-in-5.ensures)

pub node-returns-in-6 : goal.node-returns-in-6
unfolding word_of step_of step_word rows row_at use_of uses_table word_text in_brackets former_text ascii
node-returns-in-6 t c =
    group_placed c.args.inputs c.args.nodes.now.now c.args.i.0 6 (node_kind c.kind.ensures c.node_word-w.ensures) (omega arith) refl refl refl c.step_row-in-6.ensures
    (rw c.node_word-w.ensures at c.worded-in-6.ensures)

pub node-returns-in-7 : goal.node-returns-in-7
unfolding word_of step_of step_word rows row_at use_of uses_table word_text in_brackets former_text ascii
node-returns-in-7 t c =
    group_placed c.args.inputs c.args.nodes.now.now c.args.i.0 7 (node_kind c.kind.ensures c.node_word-w.ensures) (omega arith) refl refl refl c.step_row-in-7.ensures
    (rw c.node_word-w.ensures at c.operation.ensures)

pub node-returns-in-8 : goal.node-returns-in-8
unfolding word_of step_of step_word rows row_at use_of uses_table word_text in_brackets former_text ascii
node-returns-in-8 t c =
    group_placed c.args.inputs c.args.nodes.now.now c.args.i.0 8 (node_kind c.kind.ensures c.node_word-w.ensures) (omega arith) refl refl refl c.step_row-in-8.ensures
    (rw c.node_word-w.ensures at c.worded-in-8.ensures)

pub node-returns-in-9 : goal.node-returns-in-9
unfolding word_of step_of step_word rows row_at use_of uses_table word_text in_brackets former_text ascii
node-returns-in-9 t c =
    group_placed c.args.inputs c.args.nodes.now.now c.args.i.0 9 (node_kind c.kind.ensures c.node_word-w.ensures) (omega arith) refl refl refl c.step_row-in-9.ensures
    (rw c.node_word-w.ensures at c.worded-in-9.ensures)

pub node-returns-in-10 : goal.node-returns-in-10
unfolding word_of step_of step_word rows row_at use_of uses_table word_text in_brackets former_text ascii
node-returns-in-10 t c =
    group_placed c.args.inputs c.args.nodes.now.now c.args.i.0 10 (node_kind c.kind.ensures c.node_word-w.ensures) (omega arith) refl refl refl c.step_row-in-10.ensures
    (rw c.node_word-w.ensures at c.worded-in-10.ensures)

pub node-returns-in-11 : goal.node-returns-in-11
unfolding word_of step_of step_word rows row_at use_of uses_table word_text in_brackets former_text ascii
node-returns-in-11 t c =
    group_placed c.args.inputs c.args.nodes.now.now c.args.i.0 11 (node_kind c.kind.ensures c.node_word-w.ensures) (omega arith) refl refl refl c.step_row-in-11.ensures
    (rw c.node_word-w.ensures at c.worded-in-11.ensures)

pub node-returns-in-12 : goal.node-returns-in-12
unfolding word_of step_of step_word rows row_at use_of uses_table word_text in_brackets former_text ascii
node-returns-in-12 t c =
    group_placed c.args.inputs c.args.nodes.now.now c.args.i.0 12 (node_kind c.kind.ensures c.node_word-w.ensures) (omega arith) refl refl refl c.step_row-in-12.ensures
    (rw c.node_word-w.ensures at c.operation-in-12.ensures)

pub node-returns-in_default : goal.node-returns-in_default
unfolding NoneUpTo
node-returns-in_default t c =
    let k = value_kind c.kind.result (search rules) in
    value_placed c.args.inputs c.args.nodes.now.now c.args.i.0 c.kind.result (node_kind c.kind.ensures c.node_word-w.ensures) refl k.0 k.1
    (rw (
      to_z-of_z {w = w32} (record { sfits = c.value.type_inv }),
      c.value.ensures,
      c.node_word-w.ensures,
    ) at c.decimal_at.ensures)
