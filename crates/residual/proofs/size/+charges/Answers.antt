-- The count of code goes by the rows of its cells' kinds: the cycle of calls {charge_field, charge_piece, charge_pieces, charge_row}. The
-- measure is the place, since a piece stands below its cell. Assumes nothing.
use borrow.Author.Rules.{rules}
use Prim.Native.Nat.{ℕ}
use mathlib.Core.Path.{◌≡◌, refl}
use native.Mathlib.Omega.{arith}
use Rattle.script.specs.declared.Row.{Row}
use Rattle.script.specs.KindRows.{row_at}
use Rattle.residual.specs.Cells.{code_below, piece_by, row_pieces, ChargesAll, ChargesUnder}
use Rattle.residual.proofs.Rows.{plain, HasRow, variable, function, application, fix, choice, operation}
use mathlib.Core.List.{List}
use Rattle.residual.proofs.CellLaws.{Cell, is_row, is_constant, charges_none, charges_lift, charges_variable, charges_flat, charges_under}
use Rattle.residual.proofs.CellLaws.{under_code, under_row, all_node, all_plain, child_left, all_child, all_again, all_more}
use Rattle.residual.proofs.Charging.{no_more}
use Rattle.residual.proofs.size.+charges.Goals as goal

-- what is known of a cell with a row
row_charged :
    {xs : List ℕ} {p x k j room levels n : ℕ} {r : Row} → Cell xs p x k → HasRow j → k ≡ j → r ≡ row_at j →
    ChargesAll (row_pieces r (code_below xs p) x) room levels n → ChargesUnder xs p room levels n
row_charged m h g e = under_row (is_row m h g e)

pub charge_field-returns-in_default : goal.charge_field-returns-in_default
charge_field-returns-in_default t c = all_plain (plain c.args.u _ _ 0 0 c.in_default.not-Child).0

pub charge_field-charge_again-requires : goal.charge_field-charge_again-requires
charge_field-charge_again-requires t c =
    let same = c.same_piece.ensures c.if-same_piece.true in
    no_more _ _ _ _ (child_left _ same.0 c.requires.1)

pub charge_field-returns-then-same_piece : goal.charge_field-returns-then-same_piece
charge_field-returns-then-same_piece t c =
    let same = c.same_piece.ensures c.if-same_piece.true in
    all_again c.in-Child.is (code_below c.args.codes.now c.args.p) same.0 same.1
    c.requires.1 c.charge_again.ensures

pub charge_field-returns : goal.charge_field-returns
charge_field-returns t c = all_child c.in-Child.is c.charge_piece.ensures

pub charge_piece-returns-then-room-lt2 : goal.charge_piece-returns-then-room-lt2
charge_piece-returns-then-room-lt2 t c = charges_none c.if-room-lt2.true

pub charge_piece-returns-then-p-q : goal.charge_piece-returns-then-p-q
charge_piece-returns-then-p-q t c = charges_lift c.if-p-q.true c.charge_node.ensures

pub charge_piece-returns-then-kind-eq-VARIABLE : goal.charge_piece-returns-then-kind-eq-VARIABLE
charge_piece-returns-then-kind-eq-VARIABLE t c = charges_variable c.if-p-q.false (record { word = refl; kind = c.kind.ensures }) c.if-kind-eq-VARIABLE.true

pub charge_piece-returns-then-levels-eq0 : goal.charge_piece-returns-then-levels-eq0
charge_piece-returns-then-levels-eq0 t c =
    charges_flat c.if-p-q.false (record { word = refl; kind = c.kind.ensures })
    c.if-kind-eq-VARIABLE.false c.if-levels-eq0.true

pub charge_piece-returns : goal.charge_piece-returns
charge_piece-returns t c = charges_under c.if-p-q.false c.if-levels-eq0.false c.charge_pieces.ensures

pub charge_pieces-returns-in-1 : goal.charge_pieces-returns-in-1
charge_pieces-returns-in-1 t c =
    row_charged (record { word = c.requires.1; kind = c.kind.ensures }) variable c.in-1.is c.step_row.ensures c.charge_row.ensures

pub charge_pieces-returns-in-8 : goal.charge_pieces-returns-in-8
charge_pieces-returns-in-8 t c =
    row_charged (record { word = c.requires.1; kind = c.kind.ensures }) function c.in-8.is c.step_row-in-8.ensures c.charge_row-in-8.ensures

pub charge_pieces-returns-in-9 : goal.charge_pieces-returns-in-9
charge_pieces-returns-in-9 t c =
    row_charged (record { word = c.requires.1; kind = c.kind.ensures }) application c.in-9.is c.step_row-in-9.ensures c.charge_row-in-9.ensures

pub charge_pieces-returns-in-10 : goal.charge_pieces-returns-in-10
charge_pieces-returns-in-10 t c =
    row_charged (record { word = c.requires.1; kind = c.kind.ensures }) fix c.in-10.is c.step_row-in-10.ensures c.charge_row-in-10.ensures

pub charge_pieces-returns-in-11 : goal.charge_pieces-returns-in-11
charge_pieces-returns-in-11 t c =
    row_charged (record { word = c.requires.1; kind = c.kind.ensures }) choice c.in-11.is c.step_row-in-11.ensures c.charge_row-in-11.ensures

pub charge_pieces-returns-in-12 : goal.charge_pieces-returns-in-12
charge_pieces-returns-in-12 t c =
    row_charged (record { word = c.requires.1; kind = c.kind.ensures }) operation c.in-12.is c.step_row-in-12.ensures c.charge_row-in-12.ensures

pub charge_pieces-returns-in_default : goal.charge_pieces-returns-in_default
charge_pieces-returns-in_default t c =
    under_code (is_constant (record { word = c.requires.1; kind = c.kind.ensures }) (search rules))
    (all_node c.charge_node.ensures)

pub charge_row-charge_field-a-requires : goal.charge_row-charge_field-a-requires
unfolding piece_by
charge_row-charge_field-a-requires t c = (omega arith, (c.requires, all_plain refl))

pub charge_row-returns : goal.charge_row-returns
charge_row-returns t c =
    let self = code_below c.args.codes.now c.args.p in
    all_more self c.args.row.0 c.field_a-i.ensures c.charge_field-a.ensures
    (all_more self c.args.row.1 c.field_b-j.ensures c.charge_field-b.ensures
    (all_more self c.args.row.2 c.field_c.ensures c.charge_field.ensures (all_plain refl)))
