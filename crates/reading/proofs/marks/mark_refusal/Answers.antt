-- `reading::marks::mark_refusal` meets its contract: three searches, one after the other. Assumes nothing.
use borrow.Author.Rules.{rules}
use Rattle.script.specs.Refusals.{mark_refusal}
use Rattle.script.proofs.Verdicts.{refused_tells_first, passed_tells_next}
use Rattle.reading.proofs.MarkLaws.{type_marks, input_marks, node_marks}
use Rattle.reading.proofs.marks.mark_refusal.Goals as goal

pub returns-in_err-unmarked : goal.returns-in_err-unmarked
unfolding mark_refusal
returns-in_err-unmarked c =
    refused_tells_first (type_marks _ _ _ c.type_offset.ensures c.unmarked.ensures) _ c.in_err-unmarked.was (search rules)

pub returns-in_err-unmarked-2 : goal.returns-in_err-unmarked-2
unfolding mark_refusal
returns-in_err-unmarked-2 c =
    passed_tells_next (type_marks _ _ _ c.type_offset.ensures c.unmarked.ensures) c.in_ok-unmarked.was
    (refused_tells_first (input_marks _ _ _ _ c.input_offset-inputs_at.ensures c.unmarked-2.ensures) _ c.in_err-unmarked-2.was (search rules))

pub returns : goal.returns
unfolding mark_refusal
returns c =
    passed_tells_next (type_marks _ _ _ c.type_offset.ensures c.unmarked.ensures) c.in_ok-unmarked.was
    (passed_tells_next (input_marks _ _ _ _ c.input_offset-inputs_at.ensures c.unmarked-2.ensures) c.in_ok-unmarked-2.was
    (node_marks _ _ _ _ _ c.node_offset-nodes_at.ensures c.unmarked-3.ensures))
