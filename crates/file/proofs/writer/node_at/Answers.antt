-- `file::writer::node_at` meets its contract: where there is room for all bytes, and where there is not. Assumes nothing.
use mathlib.Core.Path.{ap, ◌∙◌}
use native.Mathlib.Omega.{arith}
use mir.Facts.{to_z-of_z}
use Rattle.script.specs.Bytes.{bits32}
use Rattle.script.specs.File.{node_bytes}
use Rattle.file.specs.Written.{node_parts}
use Rattle.file.proofs.Layouts.{node_sized}
use Rattle.file.proofs.WritingLaws.{put_whole, put_none}
use Rattle.file.proofs.writer.node_at.Goals as goal

pub returns-then-first-out : goal.returns-then-first-out
unfolding node_bytes node_parts
returns-then-first-out c =
    put_whole (node_sized _) (omega (arith, c.if-first-out.true)) (rw (c.bits.ensures ∙ ap bits32 (to_z-of_z c.ranges.value)) at
    c.node_inside.ensures)

pub returns-else-first-out : goal.returns-else-first-out
returns-else-first-out c = put_none (node_sized _) (omega (arith, c.if-first-out.false))
