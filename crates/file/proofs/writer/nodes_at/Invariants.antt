-- `file::writer::nodes_at` meets its contract: before each turn the records so far stand in the output. Assumes nothing.
use Rattle.script.specs.Columns.{nodes_in}
use Rattle.script.specs.File.{node_bytes, records, numbered, node_offset}
use Rattle.file.specs.Written.{Put}
use Rattle.file.proofs.writer.nodes_at.Given as goal

abbrev pub invariant-loop-j : goal.invariant-loop-j
invariant-loop-j l =
    Put l.initial.out (node_offset l.n.types l.n.inputs 0)
    (records node_bytes (numbered (nodes_in l.columns.kinds.now l.columns.a.now l.columns.b.now l.columns.c.now l.columns.values.now) 0 l.j)) l.out
