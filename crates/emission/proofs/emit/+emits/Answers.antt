-- The nodes of code are put by the rows of its cells' kinds: the cycle of calls {emit, emit_field, emit_piece, emit_row}. The measure is
-- the place, since a piece stands below its cell. Assumes nothing.
use borrow.Author.Rules.{rules}
use mathlib.Core.Path.{refl, ◌∙◌}
use native.Mathlib.Omega.{arith}
use mir.Syntax.{w32}
use mir.Facts.{to_z-of_z}
use Rattle.lambdamix.specs.Limits.{max_nodes}
use Rattle.residual.specs.Cells.{code_below}
use Rattle.residual.proofs.Rows.{variable, function, application, fix, choice, operation}
use Rattle.residual.proofs.CellLaws.{below_there, below_none, is_variable, is_row, is_constant}
use Rattle.emission.proofs.Emission.{within_constant, emits_constant, emits_variable, emits_plain, within_child, emits_child}
use Rattle.emission.proofs.Emission.{within_first, within_rest, emits_fields, emits_row, within_row}
use Rattle.script.specs.KindRows.{kind_number}
use Rattle.emission.proofs.emit.+emits.Goals as goal

pub emit-emit_row-requires : goal.emit-emit_row-requires
emit-emit_row-requires t c =
    (omega arith, ((c.requires.0.0, within_row (is_row (record { word = c.requires.1.1; kind = c.kind.ensures }) variable c.in-1.is c.step_row.ensures) _ c.requires.0.1), c.requires.1.0))

pub emit-emit_row-requires-in-8 : goal.emit-emit_row-requires-in-8
emit-emit_row-requires-in-8 t c =
    (omega arith, ((c.requires.0.0, within_row (is_row (record { word = c.requires.1.1; kind = c.kind.ensures }) function c.in-8.is c.step_row-in-8.ensures) _ c.requires.0.1), c.requires.1.0))

pub emit-emit_row-requires-in-9 : goal.emit-emit_row-requires-in-9
emit-emit_row-requires-in-9 t c =
    (omega arith, ((c.requires.0.0, within_row (is_row (record { word = c.requires.1.1; kind = c.kind.ensures }) application c.in-9.is c.step_row-in-9.ensures) _ c.requires.0.1), c.requires.1.0))

pub emit-emit_row-requires-in-10 : goal.emit-emit_row-requires-in-10
emit-emit_row-requires-in-10 t c =
    (omega arith, ((c.requires.0.0, within_row (is_row (record { word = c.requires.1.1; kind = c.kind.ensures }) fix c.in-10.is c.step_row-in-10.ensures) _ c.requires.0.1), c.requires.1.0))

pub emit-emit_row-requires-in-11 : goal.emit-emit_row-requires-in-11
emit-emit_row-requires-in-11 t c =
    (omega arith, ((c.requires.0.0, within_row (is_row (record { word = c.requires.1.1; kind = c.kind.ensures }) choice c.in-11.is c.step_row-in-11.ensures) _ c.requires.0.1), c.requires.1.0))

pub emit-emit_row-requires-in-12 : goal.emit-emit_row-requires-in-12
emit-emit_row-requires-in-12 t c =
    (omega arith, ((c.requires.0.0, within_row (is_row (record { word = c.requires.1.1; kind = c.kind.ensures }) operation c.in-12.is c.step_row-in-12.ensures) _ c.requires.0.1), c.requires.1.0))

pub emit-emit_constant-requires : goal.emit-emit_constant-requires
emit-emit_constant-requires t c =
    (c.requires.0.0, within_constant (is_constant (record { word = c.requires.1.1; kind = c.kind.ensures }) (search rules)).code _ c.requires.0.1)

pub emit-returns-in-1 : goal.emit-returns-in-1
emit-returns-in-1 t c = emits_row (is_row (record { word = c.requires.1.1; kind = c.kind.ensures }) variable c.in-1.is c.step_row.ensures) c.requires.0.1 c.emit_row.ensures

pub emit-returns-in-8 : goal.emit-returns-in-8
emit-returns-in-8 t c = emits_row (is_row (record { word = c.requires.1.1; kind = c.kind.ensures }) function c.in-8.is c.step_row-in-8.ensures) c.requires.0.1 c.emit_row-in-8.ensures

pub emit-returns-in-9 : goal.emit-returns-in-9
emit-returns-in-9 t c = emits_row (is_row (record { word = c.requires.1.1; kind = c.kind.ensures }) application c.in-9.is c.step_row-in-9.ensures) c.requires.0.1 c.emit_row-in-9.ensures

pub emit-returns-in-10 : goal.emit-returns-in-10
emit-returns-in-10 t c = emits_row (is_row (record { word = c.requires.1.1; kind = c.kind.ensures }) fix c.in-10.is c.step_row-in-10.ensures) c.requires.0.1 c.emit_row-in-10.ensures

pub emit-returns-in-11 : goal.emit-returns-in-11
emit-returns-in-11 t c = emits_row (is_row (record { word = c.requires.1.1; kind = c.kind.ensures }) choice c.in-11.is c.step_row-in-11.ensures) c.requires.0.1 c.emit_row-in-11.ensures

pub emit-returns-in-12 : goal.emit-returns-in-12
emit-returns-in-12 t c = emits_row (is_row (record { word = c.requires.1.1; kind = c.kind.ensures }) operation c.in-12.is c.step_row-in-12.ensures) c.requires.0.1 c.emit_row-in-12.ensures

pub emit-returns-in_default : goal.emit-returns-in_default
emit-returns-in_default t c =
    emits_constant (is_constant (record { word = c.requires.1.1; kind = c.kind.ensures }) (search rules)).code
    (◌∙◌ {b = c.value.result} (to_z-of_z {w = w32} (record { sfits = c.value.type_inv })) (search c.value.ensures)) c.emit_constant.ensures

pub emit_field-returns-in_default : goal.emit_field-returns-in_default
emit_field-returns-in_default t c = emits_plain c.in_default.not-Child c.plain_field.ensures

pub emit_field-emit_piece-n-requires : goal.emit_field-emit_piece-n-requires
emit_field-emit_piece-n-requires t c =
    (omega arith, ((c.requires.0.0, within_child _ c.in-Child.is _ c.requires.0.1), c.requires.1))

pub emit_field-overflow_add-result : goal.emit_field-overflow_add-result
unfolding max_nodes
emit_field-overflow_add-result t c = omega (arith, c.emit_piece-n.ensures.within)

pub emit_field-returns : goal.emit_field-returns
emit_field-returns t c = emits_child _ c.in-Child.is c.emit_piece-n.ensures

pub emit_piece-emit_constant-requires : goal.emit_piece-emit_constant-requires
emit_piece-emit_constant-requires t c =
    (c.requires.0.0, within_constant (below_none c.args.codes.now c.args.p c.args.q c.if-p-q.true) _ c.requires.0.1)

pub emit_piece-returns-then-p-q : goal.emit_piece-returns-then-p-q
emit_piece-returns-then-p-q t c =
    emits_constant (below_none c.args.codes.now c.args.p c.args.q c.if-p-q.true) refl c.emit_constant.ensures

pub emit_piece-returns-then-kind-eq-VARIABLE : goal.emit_piece-returns-then-kind-eq-VARIABLE
emit_piece-returns-then-kind-eq-VARIABLE t c =
    let k = is_variable (record { word = refl; kind = c.kind.ensures }) c.if-kind-eq-VARIABLE.true in
    emits_variable (below_there c.args.codes.now c.args.p c.args.q c.if-p-q.false ∙ k.code)
    c.name_a-name.ensures c.requires.0.1 c.emit_node.ensures

pub emit_piece-emit-requires : goal.emit_piece-emit-requires
emit_piece-emit-requires t c =
    let within = rw (below_there c.args.codes.now c.args.p c.args.q c.if-p-q.false) at c.requires.0.1 in
    (omega (arith, c.if-p-q.false), ((c.requires.0.0, within), (omega (arith, c.requires.1, c.if-p-q.false), refl)))

pub emit_piece-returns : goal.emit_piece-returns
emit_piece-returns t c =
    rw (below_there c.args.codes.now c.args.p c.args.q c.if-p-q.false) c.emit.ensures

pub emit_row-emit_field-a-requires : goal.emit_row-emit_field-a-requires
emit_row-emit_field-a-requires t c =
    (omega arith, ((c.requires.0.0, within_first (code_below c.args.codes.now c.args.p) c.args.row.0 _ c.field_a.ensures _ c.requires.0.1), c.requires.1))

pub emit_row-emit_field-b-requires : goal.emit_row-emit_field-b-requires
emit_row-emit_field-b-requires t c =
    let self = code_below c.args.codes.now c.args.p in
    let rest = within_rest self c.args.row.0 _ c.field_a.ensures _ c.requires.0.1 c.emit_field-a.ensures.pieces.next in
    (omega arith, ((c.requires.0.0, within_first self c.args.row.1 _ c.field_b.ensures _ rest), c.requires.1))

pub emit_row-emit_field-c-requires : goal.emit_row-emit_field-c-requires
emit_row-emit_field-c-requires t c =
    let self = code_below c.args.codes.now c.args.p in
    let rest = within_rest self c.args.row.0 _ c.field_a.ensures _ c.requires.0.1 c.emit_field-a.ensures.pieces.next in
    let last = within_rest self c.args.row.1 _ c.field_b.ensures _ rest c.emit_field-b.ensures.pieces.next in
    (omega arith, ((c.requires.0.0, within_first self c.args.row.2 _ c.field_c.ensures _ last), c.requires.1))

pub emit_row-returns : goal.emit_row-returns
emit_row-returns t c =
    emits_fields (code_below c.args.codes.now c.args.p) (kind_number c.args.step) c.args.x c.args.row c.field_a.ensures
    c.field_b.ensures c.field_c.ensures
    c.emit_field-a.ensures c.emit_field-b.ensures c.emit_field-c.ensures c.emit_node.ensures
