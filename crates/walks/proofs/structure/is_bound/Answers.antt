-- `walks::structure::is_bound` meets its contract. The invariant: the name is not among the first d. Assumes nothing.
use Prim.Native.Nat.{◌+◌, ◌-◌}
use mathlib.Core.Path.{◌≡◌, refl, sym, subst, ◌∙◌}
use mathlib.Core.Bool.{true}
use native.Mathlib.Omega.{arith}
use Rattle.lambdamix.specs.Limits.{max_height}
use Rattle.lambdamix.specs.Structure.{member}
use Rattle.walks.specs.Walks.{innermost}
use Rattle.walks.proofs.Scopes.{found_further}
use Rattle.walks.proofs.structure.is_bound.Goals as goal

pub loop-d-init : goal.loop-d-init
unfolding member innermost
loop-d-init c = (omega arith, refl)

pub overflow_add-d : goal.overflow_add-d
unfolding max_height
overflow_add-d c = omega arith

pub returns-then-is_among : goal.returns-then-is_among
returns-then-is_among c =
    let a = c.args in
    let end = c.min.result in
    let e : a.depth - end + end ≡ a.depth = omega arith in
    sym (subst (λ k. member a.x.0 (innermost a.names.now k) ≡ true) e
    (found_further _ _ end (a.depth - end) (sym c.is_among.ensures ∙ c.if-is_among.true)))

pub loop-d-preserved : goal.loop-d-preserved
loop-d-preserved c =
    let e : c.min.result ≡ c.loop-d.d + 32 = omega arith in
    (omega arith, rw (← e) (sym c.if-is_among.false ∙ c.is_among.ensures))
