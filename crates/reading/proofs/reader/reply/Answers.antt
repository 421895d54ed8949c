-- `reading::reader::reply` meets its contract: the file's verdict, then the lengths of the columns. Assumes nothing.
use mathlib.Core.Path.{ap, ◌∙◌}
use mathlib.Core.Bool.{Bool}
use borrow.Author.Rules.{rules}
use Rattle.lambdamix.specs.Refusal.{refused_unless}
use Rattle.script.proofs.ReplyLaws.{tells_refusal}
use Rattle.script.proofs.Verdicts.{refused_tells_first, passed_tells_next}
use Rattle.reading.specs.Heads.{read_reply}
use Rattle.reading.proofs.ReaderLaws.{reads_refused, reads_passed, long_told}
use Rattle.reading.proofs.reader.reply.Goals as goal

pub returns-in_err-check_file : goal.returns-in_err-check_file
unfolding read_reply
returns-in_err-check_file c =
    reads_refused (refused_tells_first (tells_refusal c.check_file.ensures) _ c.in_err-check_file.was c.in_err-check_file.was) _ c.in_err-check_file.was (search rules)

pub returns-in_err-unless : goal.returns-in_err-unless
unfolding read_reply
returns-in_err-unless c =
    let long = c.unless.ensures ∙ ap (λ (b : Bool). refused_unless b 21 0) (long_told _ _ c.head_counts-n.ensures c.hold.ensures) in
    reads_refused (passed_tells_next (tells_refusal c.check_file.ensures) c.in_ok-check_file.was long) _ c.in_err-unless.was (search rules)

pub returns : goal.returns
unfolding read_reply
returns c =
    let long = c.unless.ensures ∙ ap (λ (b : Bool). refused_unless b 21 0) (long_told _ _ c.head_counts-n.ensures c.hold.ensures) in
    reads_passed (passed_tells_next (tells_refusal c.check_file.ensures) c.in_ok-check_file.was long) c.in_ok-unless.was c.head_counts-n.ensures
