-- `file::writer::types_at` meets its contract: before each turn the records so far stand in the output. Assumes nothing.
use Rattle.script.specs.Columns.{types_in}
use Rattle.script.specs.File.{type_bytes, records, numbered, type_offset}
use Rattle.file.specs.Written.{Put}
use Rattle.file.proofs.writer.types_at.Given as goal

abbrev pub invariant-loop-j : goal.invariant-loop-j
invariant-loop-j l =
    Put l.initial.out (type_offset 0) (records type_bytes (numbered (types_in l.columns.parameters.now l.columns.results.now) 0 l.j)) l.out
