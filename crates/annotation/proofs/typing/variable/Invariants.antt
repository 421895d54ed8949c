-- `annotation::typing::variable` meets its contract: what is looked for among all binders is what is looked for among the first d.
-- Assumes nothing.
use Rattle.std.proofs.Common.{◌≡◌}
use Rattle.annotation.specs.Walks.{bound}
use Rattle.annotation.proofs.typing.variable.Given as goal

abbrev pub invariant-loop-d : goal.invariant-loop-d
invariant-loop-d l = bound l.stack l.x.0 l.i.0 l.depth ≡ bound l.stack l.x.0 l.i.0 l.d
