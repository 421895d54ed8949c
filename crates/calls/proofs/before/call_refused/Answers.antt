-- `calls::before::call_refused` meets its contract: the first of two refusals is told. Assumes nothing.
use Rattle.std.specs.Prelude.{Err}
use Rattle.std.proofs.Common.{refl, ap, ◌∙◌}
use Rattle.std.proofs.lemmas.Result.{err_from_is_err_and}
use Rattle.script.specs.Tables.{row_input, tables_script}
use Rattle.script.proofs.Verdicts.{refused_tells_first, passed_tells_next}
use Rattle.lambdamix.specs.Specializing.{later_refusal}
use Rattle.calls.proofs.before.call_refused.Goals as goal

pub returns-in_err-annotation_by : goal.returns-in_err-annotation_by
unfolding later_refusal
returns-in_err-annotation_by c =
    let p = err_from_is_err_and c.from_residual.result c.from_residual.ensures.1 in
    λ ks xs ys zs vs ok q ss l. refused_tells_first (c.annotation_by.ensures ks xs ys zs vs ok q) _ c.in_err-annotation_by.was (p.1 ∙ ap Err p.2)

pub returns : goal.returns
unfolding later_refusal tables_script row_input
returns c =
    λ ks xs ys zs vs ok q ss l.
    passed_tells_next (c.annotation_by.ensures ks xs ys zs vs ok q) c.in_ok-annotation_by.was (c.call_or_stores_refusal.ensures _ ss refl l)
