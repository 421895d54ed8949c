-- `bands::maker::bands` meets its contract: by the verdict on the rows. Assumes nothing.
use Rattle.std.specs.Prelude.{Err}
use Rattle.std.proofs.Common.{ap, ◌∙◌}
use Rattle.std.proofs.lemmas.Result.{err_from_is_err_and}
use Rattle.script.proofs.Texts.{writes_passed, writes_refused}
use Rattle.script.proofs.Verdicts.{passed_tells_none}
use Rattle.bands.specs.Calls.{bands_refusal}
use Rattle.bands.proofs.Writing.{row_count}
use Rattle.bands.proofs.maker.bands.Goals as goal

pub returns-in_err-columns_refusal : goal.returns-in_err-columns_refusal
unfolding bands_refusal
returns-in_err-columns_refusal c =
    let p = err_from_is_err_and c.from_residual.result c.from_residual.ensures.1 in
    record {
      text = writes_refused c.columns_refusal.ensures c.in_err-columns_refusal.was (p.1 ∙ ap Err p.2);
      low = c.numbers_fit.ensures;
      high = c.numbers_fit-2.ensures;
      grade = c.numbers_fit-3.ensures;
    }

pub write_script-requires : goal.write_script-requires
write_script-requires c =
    record {
      count = row_count _ _ (passed_tells_none c.columns_refusal.ensures c.in_ok-columns_refusal.was);
      low = c.numbers_fit.ensures;
      grade = c.numbers_fit-3.ensures;
    }

pub returns : goal.returns
unfolding bands_refusal
returns c =
    record {
      text = writes_passed c.columns_refusal.ensures c.in_ok-columns_refusal.was c.write_script.ensures;
      low = c.numbers_fit.ensures;
      high = c.numbers_fit-2.ensures;
      grade = c.numbers_fit-3.ensures;
    }
