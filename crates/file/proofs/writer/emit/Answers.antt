-- `file::writer::emit` meets its contract: part after part. Assumes nothing.
use Rattle.script.specs.Tables.{row_type, row_input, row_node}
use Rattle.file.proofs.WriterLaws.{put_file}
use Rattle.file.proofs.writer.emit.Goals as goal

pub returns : goal.returns
unfolding row_type row_input row_node
returns c =
    put_file _ _ _ _ c.head_at.ensures c.types_at.ensures c.inputs_at.ensures c.nodes_at.ensures
