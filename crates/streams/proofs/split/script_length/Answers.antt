-- `streams::split::script_length` meets its contract: three tests of the head. Assumes nothing.
use mathlib.Core.Path.{refl, sym, ◌∙◌}
use borrow.Author.Tests.{le-leb, lt-leb}
use Rattle.reading.proofs.HeadLaws.{counts_told, length_told}
use Rattle.streams.specs.Input.{script_length_by}
use Rattle.streams.proofs.Splitting.{length_by}
use Rattle.streams.proofs.split.script_length.Goals as goal
use Rattle.streams.proofs.split.script_length.Goals.{else-input-ge8-via-then-input-ge8+then-marked+else-counts_right, else-input-ge8-via-then-input-ge8+else-marked, else-input-ge8-via-else-input-ge8}

pub returns-then-counts_right : goal.returns-then-counts_right
unfolding script_length_by
returns-then-counts_right c =
    length_told _ c.head_counts-n.ensures c.file_size.ensures
    ∙ length_by _ (le-leb _ _ c.if-input-ge8.true) (sym c.marked.ensures ∙ c.if-marked.true)
    (sym (counts_told _ c.head_counts-n.ensures c.counts_right.ensures) ∙ c.if-counts_right.true)

pub returns-else-input-ge8 : goal.returns-else-input-ge8
unfolding script_length_by
returns-else-input-ge8 c =
    elim c.else-input-ge8.branch [
      | else-input-ge8-via-then-input-ge8+then-marked+else-counts_right w ↦
          length_by _ (le-leb _ _ w.if-input-ge8.true) (sym w.marked.ensures ∙ w.if-marked.true)
          (sym (counts_told _ c.head_counts-n.ensures w.counts_right.ensures) ∙ w.if-counts_right.false)
      | else-input-ge8-via-then-input-ge8+else-marked w ↦
          length_by _ (le-leb _ _ w.if-input-ge8.true) (sym w.marked.ensures ∙ w.if-marked.false) refl
      | else-input-ge8-via-else-input-ge8 w ↦ length_by _ (lt-leb _ _ w.if-input-ge8.false) refl refl
    ]
