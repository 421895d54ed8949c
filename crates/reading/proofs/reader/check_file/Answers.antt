-- `reading::reader::check_file` meets its contract: the head, then the body. Assumes nothing.
use borrow.Author.Rules.{rules}
use Rattle.script.specs.Refusals.{file_refusal}
use Rattle.script.proofs.ReplyLaws.{refusal_tells}
use Rattle.script.proofs.Verdicts.{passed_tells_none, refused_tells_first, passed_tells_next}
use Rattle.reading.proofs.ReaderLaws.{head_passes}
use Rattle.reading.proofs.reader.check_file.Goals as goal

pub body_refusal-requires : goal.body_refusal-requires
body_refusal-requires c = head_passes _ (passed_tells_none c.head_refusal.ensures c.in_ok-head_refusal.was)

pub returns-in_err-head_refusal : goal.returns-in_err-head_refusal
unfolding file_refusal
returns-in_err-head_refusal c =
    refusal_tells (refused_tells_first c.head_refusal.ensures _ c.in_err-head_refusal.was (search rules))

pub returns : goal.returns
unfolding file_refusal
returns c = refusal_tells (passed_tells_next c.head_refusal.ensures c.in_ok-head_refusal.was c.body_refusal.ensures)
