-- `file::writer::types_at` meets its contract: before each turn the records so far stand in the output. Assumes nothing.
use native.Mathlib.Omega.{arith}
use Rattle.script.specs.File.{type_bytes, type_offset}
use Rattle.file.proofs.Layouts.{type_layout}
use Rattle.file.proofs.WritingLaws.{put_no_record, put_record}
use Rattle.file.proofs.writer.types_at.Goals as goal

pub loop-j-init : goal.loop-j-init
loop-j-init c = put_no_record type_layout _ _ _

pub loop-j-preserved : goal.loop-j-preserved
unfolding type_offset
loop-j-preserved c =
    put_record type_layout _ _ _ c.loop-j.invariant (omega (arith, c.type_offset.ensures))
    (λ x. type_bytes (record { parameter = c.type_at-parameter.ensures x; result = c.type_at-res.ensures x })) c.type_at.ensures
