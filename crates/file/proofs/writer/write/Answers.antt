-- `file::writer::write` meets its contract: by the verdict on the tables. Assumes nothing.
use borrow.Author.Rules.{rules}
use Rattle.script.specs.Tables.{write_refusal}
use Rattle.script.proofs.ReplyLaws.{tells_refusal}
use Rattle.script.proofs.Texts.{writes_passed, writes_refused}
use Rattle.file.proofs.writer.write.Goals as goal

pub returns-in_err-tables_refusal : goal.returns-in_err-tables_refusal
unfolding write_refusal
returns-in_err-tables_refusal c =
    record {
      text = writes_refused (tells_refusal c.tables_refusal.ensures) c.in_err-tables_refusal.was (search rules);
      lent = c.tables_fit.ensures;
    }

pub returns : goal.returns
unfolding write_refusal
returns c =
    record {
      text = writes_passed (tells_refusal c.tables_refusal.ensures) c.in_ok-tables_refusal.was c.fit.ensures;
      lent = c.tables_fit.ensures;
    }
