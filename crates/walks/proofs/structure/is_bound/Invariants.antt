-- `walks::structure::is_bound` meets its contract. The invariant: the name is not among the first d. Assumes nothing.
use Prim.Native.Nat.{◌≤◌}
use mathlib.Core.Path.{◌≡◌}
use mathlib.Core.Bool.{false}
use Rattle.lambdamix.specs.Structure.{member}
use Rattle.walks.specs.Walks.{innermost}
use Rattle.walks.proofs.structure.is_bound.Given as goal

abbrev pub invariant-loop-d : goal.invariant-loop-d
invariant-loop-d l = (l.d ≤ l.depth) × (false ≡ member l.x.0 (innermost l.names l.d))
