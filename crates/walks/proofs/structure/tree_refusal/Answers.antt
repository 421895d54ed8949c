-- `walks::structure::tree_refusal` meets its contract: a search within the levels that are allowed finds the lowest unbound variable of a tree that is not
-- too high, and tells one that is. Assumes nothing.
use Prim.Native.Nat.{ℕ}
use mathlib.Core.Path.{refl}
use native.Mathlib.Omega.{arith}
use lib.ListN.{length-replicate}
use Rattle.lambdamix.specs.Limits.{max_height}
use Rattle.lambdamix.specs.Refusal.{refused_at, or_else}
use Rattle.script.specs.Verdicts.{refusal_of}
use Rattle.walks.specs.Walks.{innermost, levels_in}
use Rattle.walks.proofs.Heights.{height_above, height_high}
use Rattle.walks.proofs.Scopes.{root_none, root_high, root_some}
use Rattle.walks.proofs.structure.tree_refusal.Goals as goal

pub scope-place-requires : goal.scope-place-requires
unfolding max_height levels_in
scope-place-requires c = record {
  i_bound = (c.requires, omega (arith, length-replicate {A = ℕ} max_height 0));
  limits_bound = omega arith;
}

pub returns-then-place : goal.returns-then-place
unfolding innermost refusal_of refused_at or_else max_height
returns-then-place c =
    let q = root_none c.args.nodes.now _ _ refl (omega arith) c.scope-place.ensures c.if-place.true in
    rw (q.0, q.1)

pub overflow_sub-height : goal.overflow_sub-height
unfolding innermost max_height
overflow_sub-height c =
    let nodes = c.args.nodes.now in
    let h = root_high nodes _ _ refl (omega arith) c.scope-place.ensures c.if-place-eq-TOO_HIGH.true in
    omega (arith, height_above c.height-height.ensures h)

pub returns-then-place-eq-TOO_HIGH : goal.returns-then-place-eq-TOO_HIGH
unfolding innermost refusal_of refused_at or_else max_height
returns-then-place-eq-TOO_HIGH c =
    let nodes = c.args.nodes.now in
    let h = root_high nodes _ _ refl (omega arith) c.scope-place.ensures c.if-place-eq-TOO_HIGH.true in
    rw (c.at.ensures, height_high c.height-height.ensures (height_above c.height-height.ensures h))

pub returns : goal.returns
unfolding innermost refusal_of refused_at or_else max_height
returns c =
    let nodes = c.args.nodes.now in
    let q = root_some nodes _ _ refl (omega arith) c.scope-place.ensures c.if-place.false c.if-place-eq-TOO_HIGH.false in
    rw (c.at-2.ensures, q.0, q.1)
