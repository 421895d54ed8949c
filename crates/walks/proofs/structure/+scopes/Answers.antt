-- The proof of the cycle of calls of the search for unbound variables. Each arm of the match reads the row of its own kind. As no more levels are allowed
-- than there are places, every name has its place. Assumes nothing.
use mathlib.Core.Path.{refl}
use mathlib.Core.Logic.{⊎_elim}
use native.Mathlib.Omega.{arith}
use Rattle.script.specs.Words.{columns_in}
use Rattle.walks.specs.Walks.{unbound_field, same}
use Rattle.walks.proofs.OwnRow.{own_row, own_children, no_row, no_children}
use Rattle.walks.proofs.Scopes.{levels_less, scoped_name, child_height, no_height, scoped_child, scoped_stray, scoped_high, scoped_fields}
use Rattle.walks.proofs.Scopes.{scoped_row, scoped_past}
use Rattle.walks.proofs.structure.+scopes.Goals as goal

pub scope-returns-in-0-by_kind : goal.scope-returns-in-0-by_kind
scope-returns-in-0-by_kind t c =
    let r = c.by_kind-step_row.ensures in
    scoped_row c.args.nodes.now.now _ _ c.node_word-w.ensures _ (own_row _ c.kind.ensures r c.in-0-by_kind.is)
    (own_children _ c.kind.ensures r c.in-0-by_kind.is) c.by_kind-scope_fields.ensures

pub scope-returns-in-1-by_kind : goal.scope-returns-in-1-by_kind
scope-returns-in-1-by_kind t c =
    let r = c.by_kind-step_row-2.ensures in
    scoped_row c.args.nodes.now.now _ _ c.node_word-w.ensures _ (own_row _ c.kind.ensures r c.in-1-by_kind.is)
    (own_children _ c.kind.ensures r c.in-1-by_kind.is) c.by_kind-scope_fields-2.ensures

pub scope-returns-in-2-by_kind : goal.scope-returns-in-2-by_kind
scope-returns-in-2-by_kind t c =
    let r = c.by_kind-step_row-3.ensures in
    scoped_row c.args.nodes.now.now _ _ c.node_word-w.ensures _ (own_row _ c.kind.ensures r c.in-2-by_kind.is)
    (own_children _ c.kind.ensures r c.in-2-by_kind.is) c.by_kind-scope_fields-3.ensures

pub scope-returns-in-3-by_kind : goal.scope-returns-in-3-by_kind
scope-returns-in-3-by_kind t c =
    let r = c.by_kind-step_row-4.ensures in
    scoped_row c.args.nodes.now.now _ _ c.node_word-w.ensures _ (own_row _ c.kind.ensures r c.in-3-by_kind.is)
    (own_children _ c.kind.ensures r c.in-3-by_kind.is) c.by_kind-scope_fields-4.ensures

pub scope-returns-in-4-by_kind : goal.scope-returns-in-4-by_kind
scope-returns-in-4-by_kind t c =
    let r = c.by_kind-step_row-5.ensures in
    scoped_row c.args.nodes.now.now _ _ c.node_word-w.ensures _ (own_row _ c.kind.ensures r c.in-4-by_kind.is)
    (own_children _ c.kind.ensures r c.in-4-by_kind.is) c.by_kind-scope_fields-5.ensures

pub scope-returns-in-5-by_kind : goal.scope-returns-in-5-by_kind
scope-returns-in-5-by_kind t c =
    let r = c.by_kind-step_row-6.ensures in
    scoped_row c.args.nodes.now.now _ _ c.node_word-w.ensures _ (own_row _ c.kind.ensures r c.in-5-by_kind.is)
    (own_children _ c.kind.ensures r c.in-5-by_kind.is) c.by_kind-scope_fields-6.ensures

pub scope-returns-in-6-by_kind : goal.scope-returns-in-6-by_kind
scope-returns-in-6-by_kind t c =
    let r = c.by_kind-step_row-7.ensures in
    scoped_row c.args.nodes.now.now _ _ c.node_word-w.ensures _ (own_row _ c.kind.ensures r c.in-6-by_kind.is)
    (own_children _ c.kind.ensures r c.in-6-by_kind.is) c.by_kind-scope_fields-7.ensures

pub scope-returns-in-7-by_kind : goal.scope-returns-in-7-by_kind
scope-returns-in-7-by_kind t c =
    let r = c.by_kind-step_row-8.ensures in
    scoped_row c.args.nodes.now.now _ _ c.node_word-w.ensures _ (own_row _ c.kind.ensures r c.in-7-by_kind.is)
    (own_children _ c.kind.ensures r c.in-7-by_kind.is) c.by_kind-scope_fields-8.ensures

pub scope-returns-in-8-by_kind : goal.scope-returns-in-8-by_kind
scope-returns-in-8-by_kind t c =
    let r = c.by_kind-step_row-9.ensures in
    scoped_row c.args.nodes.now.now _ _ c.node_word-w.ensures _ (own_row _ c.kind.ensures r c.in-8-by_kind.is)
    (own_children _ c.kind.ensures r c.in-8-by_kind.is) c.by_kind-scope_fields-9.ensures

pub scope-returns-in-9-by_kind : goal.scope-returns-in-9-by_kind
scope-returns-in-9-by_kind t c =
    let r = c.by_kind-step_row-10.ensures in
    scoped_row c.args.nodes.now.now _ _ c.node_word-w.ensures _ (own_row _ c.kind.ensures r c.in-9-by_kind.is)
    (own_children _ c.kind.ensures r c.in-9-by_kind.is) c.by_kind-scope_fields-10.ensures

pub scope-returns-in-10-by_kind : goal.scope-returns-in-10-by_kind
scope-returns-in-10-by_kind t c =
    let r = c.by_kind-step_row-11.ensures in
    scoped_row c.args.nodes.now.now _ _ c.node_word-w.ensures _ (own_row _ c.kind.ensures r c.in-10-by_kind.is)
    (own_children _ c.kind.ensures r c.in-10-by_kind.is) c.by_kind-scope_fields-11.ensures

pub scope-returns-in-11-by_kind : goal.scope-returns-in-11-by_kind
scope-returns-in-11-by_kind t c =
    let r = c.by_kind-step_row-12.ensures in
    scoped_row c.args.nodes.now.now _ _ c.node_word-w.ensures _ (own_row _ c.kind.ensures r c.in-11-by_kind.is)
    (own_children _ c.kind.ensures r c.in-11-by_kind.is) c.by_kind-scope_fields-12.ensures

pub scope-returns-in-12-by_kind : goal.scope-returns-in-12-by_kind
scope-returns-in-12-by_kind t c =
    let r = c.by_kind-step_row-13.ensures in
    scoped_row c.args.nodes.now.now _ _ c.node_word-w.ensures _ (own_row _ c.kind.ensures r c.in-12-by_kind.is)
    (own_children _ c.kind.ensures r c.in-12-by_kind.is) c.by_kind-scope_fields-13.ensures

pub scope-returns-in_default : goal.scope-returns-in_default
scope-returns-in_default t c =
    scoped_past c.args.nodes.now.now _ _ c.node_word-w.ensures _ _ (no_row _ c.kind.ensures (omega arith))
    (no_children _ c.kind.ensures (omega arith))

pub scope_child-returns-then-limits-lt-LEVEL : goal.scope_child-returns-then-limits-lt-LEVEL
scope_child-returns-then-limits-lt-LEVEL t c = scoped_high c.args.nodes.now.now _ _ _ _ _ c.if-limits-lt-LEVEL.true

pub scope_child-scope-requires : goal.scope_child-scope-requires
scope_child-scope-requires t c =
    let h = c.if-m-i.true in (
      omega (arith, h),
      (
        (omega (arith, c.requires.i_bound.0, h), c.requires.i_bound.1),
        omega (arith, c.requires.limits_bound, levels_less c.args.limits c.if-limits-lt-LEVEL.false),
      ),
    )

pub scope_child-returns-then-m-i : goal.scope_child-returns-then-m-i
scope_child-returns-then-m-i t c =
    scoped_child c.args.nodes.now.now _ _ _ _ c.if-m-i.true c.if-limits-lt-LEVEL.false c.scope.ensures

pub scope_child-returns : goal.scope_child-returns
scope_child-returns t c = scoped_stray c.args.nodes.now.now _ _ _ _ _ _ c.if-m-i.false c.if-limits-lt-LEVEL.false

pub scope_field-returns-in-Name : goal.scope_field-returns-in-Name
unfolding unbound_field
scope_field-returns-in-Name t c = rw c.in-Name.is (scoped_name _ (no_height _ _ _ refl) c.scope_name.ensures)

pub scope_field-returns-in-Child : goal.scope_field-returns-in-Child
unfolding unbound_field
scope_field-returns-in-Child t c = rw (c.in-Child.is, child_height _ _ _ refl) c.scope_child.ensures

pub scope_field-returns-in-Nothing : goal.scope_field-returns-in-Nothing
unfolding unbound_field
scope_field-returns-in-Nothing t c =
    ⊎_elim
    (λ e. rw e (scoped_name _ (no_height _ _ _ refl) (same refl)))
    (⊎_elim
    (λ e. rw e (scoped_name _ (no_height _ _ _ refl) (same refl)))
    (⊎_elim (λ e. rw e (scoped_name _ (no_height _ _ _ refl) (same refl))) (λ e. rw e (scoped_name _ (no_height _ _ _ refl) (same refl)))))
    c.in-Nothing.is

pub scope_fields-returns : goal.scope_fields-returns
scope_fields-returns t c =
    rw (← c.field_a-a.ensures, ← c.field_b.ensures, ← c.field_c.ensures)
    (scoped_fields (columns_in c.args.nodes.now.now) _ _ _ _ _ _ _ _ c.put_binder-inner.ensures c.scope_field-p.ensures c.scope_field-q.ensures (omega arith)
    c.scope_field.ensures (omega arith))
