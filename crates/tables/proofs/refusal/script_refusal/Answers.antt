-- `tables::refusal::script_refusal` meets its contract: contents, then structure on words that hold the nodes. Assumes nothing.
use Rattle.std.proofs.lemmas.Result.{err_from_is_err_and}
use Rattle.tables.proofs.ScriptLaws.{refused_by_content, refused_by_structure, packed_by_content, not_packed}
use Rattle.tables.proofs.refusal.script_refusal.Goals as goal

pub returns-in_err-content_refusal : goal.returns-in_err-content_refusal
returns-in_err-content_refusal c =
    let p = err_from_is_err_and c.from_residual.result c.from_residual.ensures.1 in
    rw (p.1, p.2)
    (record { reply = refused_by_content _ _ _ _ _ _ _ _ _ _ _ c.content_refusal.ensures.reply c.in_err-content_refusal.was; packed = not_packed })

pub returns : goal.returns
returns c =
    let told = c.content_refusal.ensures in
    let passed = c.in_ok-content_refusal.was in
    record {
      reply = refused_by_structure _ _ _ _ _ _ _ _ _ _ _ told.reply passed told.packed _ c.structure_refusal.ensures;
      packed = packed_by_content _ _ _ _ _ _ _ _ _ _ _ told.reply passed told.packed _;
    }
