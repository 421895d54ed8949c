-- `walks::structure::is_among` meets its contract. The invariant: whether the name is among the first d is known. Assumes nothing.
use mathlib.Core.Path.{◌≡◌}
use Rattle.lambdamix.specs.Structure.{member}
use Rattle.walks.specs.Walks.{innermost}
use Rattle.walks.proofs.structure.is_among.Given as goal

abbrev pub invariant-loop-d : goal.invariant-loop-d
invariant-loop-d l = l.found ≡ member l.x.0 (innermost l.names l.d)
