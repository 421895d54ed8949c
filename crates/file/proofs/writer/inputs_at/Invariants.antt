-- `file::writer::inputs_at` meets its contract: before each turn the records so far stand in the output. Assumes nothing.
use Rattle.script.specs.Columns.{inputs_in}
use Rattle.script.specs.File.{input_bytes, records, numbered, input_offset}
use Rattle.file.specs.Written.{Put}
use Rattle.file.proofs.writer.inputs_at.Given as goal

abbrev pub invariant-loop-j : goal.invariant-loop-j
invariant-loop-j l = Put l.initial.out (input_offset l.n.types 0) (records input_bytes (numbered (inputs_in l.inputs) 0 l.j)) l.out
