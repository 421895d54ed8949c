-- `annotation::typing::pack_types` meets its contract: the first j words are packed. Assumes nothing.
use Rattle.annotation.proofs.Filling.{Packing}
use Rattle.annotation.proofs.typing.pack_types.Given as goal

abbrev pub invariant-loop-j : goal.invariant-loop-j
invariant-loop-j l = Packing l.parameters l.results l.initial.types l.types l.j
