-- `calls::before::call_or_stores_refusal` meets its contract: the first of two refusals is told. Assumes nothing.
use Rattle.std.specs.Prelude.{Err}
use Rattle.std.proofs.Common.{ap, ◌∙◌}
use Rattle.std.proofs.lemmas.Result.{err_from_is_err_and}
use Rattle.script.proofs.Verdicts.{refused_tells_first, passed_tells_next}
use Rattle.calls.proofs.before.call_or_stores_refusal.Goals as goal

pub returns-in_err-call_refusal : goal.returns-in_err-call_refusal
returns-in_err-call_refusal c =
    let p = err_from_is_err_and c.from_residual.result c.from_residual.ensures.1 in
    λ s zs i l. refused_tells_first (c.call_refusal.ensures s zs i l) _ c.in_err-call_refusal.was (p.1 ∙ ap Err p.2)

pub returns : goal.returns
returns c = λ s zs i l. passed_tells_next (c.call_refusal.ensures s zs i l) c.in_ok-call_refusal.was c.stores_refusal.ensures
