-- `bands::rows::rows_refusal` meets its contract: by the verdicts of the three searches. Assumes nothing.
use mathlib.Core.Path.{refl}
use native.Mathlib.Omega.{arith}
use Rattle.std.proofs.lemmas.Result.{err_from_is_err_and}
use Rattle.script.specs.Verdicts.{refusal_of}
use Rattle.bands.specs.Rows.{max_rows}
use Rattle.bands.proofs.Refusing.{wrong_told, overlap_told, gap_told, miscount, miscounted}
use Rattle.bands.proofs.rows.rows_refusal.Goals as goal

pub returns-then-count-lt1 : goal.returns-then-count-lt1
unfolding refusal_of
returns-then-count-lt1 c = rw c.at.ensures (miscounted _ _ (miscount c.then-count-lt1.either))

pub returns-in_err-wrong_row : goal.returns-in_err-wrong_row
unfolding max_rows
returns-in_err-wrong_row c =
    let p = err_from_is_err_and c.from_residual.result c.from_residual.ensures.1 in
    rw p.1
    (rw p.2 (wrong_told _ _ c.wrong_row.ensures c.if-count-lt1.false (omega (arith, c.if-count-gt-MAX_ROWS.false)) c.in_err-wrong_row.was refl))

pub returns-in_err-overlap : goal.returns-in_err-overlap
unfolding max_rows
returns-in_err-overlap c =
    let p = err_from_is_err_and c.from_residual-in_err-overlap.result c.from_residual-in_err-overlap.ensures.1 in
    rw p.1
    (rw p.2
    (overlap_told _ _ c.wrong_row.ensures c.overlap.ensures c.if-count-lt1.false (omega (arith, c.if-count-gt-MAX_ROWS.false)) c.in_ok-wrong_row.was
    c.in_err-overlap.was refl))

pub returns : goal.returns
unfolding max_rows
returns c =
    gap_told _ _ c.wrong_row.ensures c.overlap.ensures c.gap.ensures c.if-count-lt1.false (omega (arith, c.if-count-gt-MAX_ROWS.false)) c.in_ok-wrong_row.was
    c.in_ok-overlap.was
