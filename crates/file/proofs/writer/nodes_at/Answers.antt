-- `file::writer::nodes_at` meets its contract: before each turn the records so far stand in the output. Assumes nothing.
use mathlib.Core.Path.{◌∙◌}
use native.Mathlib.Omega.{arith}
use mir.Syntax.{w32}
use mir.Facts.{to_z-of_z}
use Rattle.script.specs.File.{node_bytes, node_offset, file_length}
use Rattle.file.proofs.Layouts.{node_sized, node_layout}
use Rattle.file.proofs.WritingLaws.{put_there, put_no_record, put_record}
use Rattle.file.proofs.writer.nodes_at.Goals as goal

pub loop-j-init : goal.loop-j-init
loop-j-init c = put_no_record node_layout _ _ _

pub loop-j-preserved : goal.loop-j-preserved
unfolding file_length node_offset
loop-j-preserved c =
    put_record node_layout _ _ _ c.loop-j.invariant (omega (arith, c.node_offset-place.ensures)) (λ x. node_bytes (record {
      kind = c.at-kind.ensures x;
      a = c.at-a.ensures x;
      b = c.at-b.ensures x;
      c = c.at-c.ensures x;
      value = (to_z-of_z {w = w32} (record { sfits = c.at-value.type_inv }) ∙ c.at-value.ensures) x;
    })) (put_there (node_sized _) (omega (arith, c.requires, c.node_offset-place.ensures)) c.node_at.ensures)
