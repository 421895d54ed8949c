-- `annotation::typing::bind_inputs` meets its contract: the first j inputs are bound. Assumes nothing.
use Rattle.annotation.proofs.Filling.{Binding}
use Rattle.annotation.proofs.typing.bind_inputs.Given as goal

abbrev pub invariant-loop-j : goal.invariant-loop-j
invariant-loop-j l = Binding l.count l.inputs l.initial.stack l.stack l.j
