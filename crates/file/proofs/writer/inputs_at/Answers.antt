-- `file::writer::inputs_at` meets its contract: before each turn the records so far stand in the output. Assumes nothing.
use native.Mathlib.Omega.{arith}
use Rattle.script.specs.File.{input_bytes, input_offset}
use Rattle.file.proofs.Layouts.{input_layout}
use Rattle.file.proofs.WritingLaws.{put_no_record, put_record}
use Rattle.file.proofs.writer.inputs_at.Goals as goal

pub loop-j-init : goal.loop-j-init
loop-j-init c = put_no_record input_layout _ _ _

pub loop-j-preserved : goal.loop-j-preserved
unfolding input_offset
loop-j-preserved c =
    put_record input_layout _ _ _ c.loop-j.invariant (omega (arith, c.input_offset.ensures)) (λ x. input_bytes (c.type_at-input.ensures x))
    c.input_at.ensures
