-- `tables::content::content_refusal` meets its contract: the counts, then three searches. Assumes nothing.
use mathlib.Core.Path.{sym, ◌∙◌}
use native.Mathlib.Omega.{arith}
use Rattle.lambdamix.specs.Limits.{max_types, max_inputs, max_nodes}
use Rattle.script.specs.Verdicts.{refusal_of}
use Rattle.script.proofs.Searching.{found_below}
use Rattle.script.proofs.Sound.{in_limits}
use Rattle.tables.proofs.ContentLaws.{wrong_counts, content_by_searches}
use Rattle.tables.proofs.ScriptLaws.{packed_by_search, not_packed}
use Rattle.tables.proofs.content.content_refusal.Goals as goal

pub first_bad_node-bad_node-requires : goal.first_bad_node-bad_node-requires
unfolding max_nodes
first_bad_node-bad_node-requires c =
    let at-counts-right = c.counts_right in
    let at-if1 = c.if-not-counts_right in
    let at_pre = c.requires in
    let l = in_limits _ _ _ (sym at-counts-right.ensures ∙ at-if1.false) in record {
      nodes_le_max_nodes = (
        omega (arith, l.nodes),
        omega (
          arith,
          l.nodes,
          at_pre.max_nodes_in_bounds,
        ),
      );
      hold_nodes = at_pre.hold_nodes;
    }

pub record_refusal-requires : goal.record_refusal-requires
unfolding max_types max_inputs max_nodes
record_refusal-requires c =
    let at-counts-right = c.counts_right in
    let at-if1 = c.if-not-counts_right in
    let at-first-bad-type = c.first_bad_type-bad_type in
    let at-first-bad-input = c.first_bad_input-bad_input in
    let at-first-bad-node = c.first_bad_node-bad_node in
    let l = in_limits _ _ _ (sym at-counts-right.ensures ∙ at-if1.false) in (
      found_below _ _ _ at-first-bad-type.ensures (omega
          (arith, l.types)),
      (
        found_below _ _ _ at-first-bad-input.ensures (omega (arith, l.inputs)),
        found_below _ _ _ at-first-bad-node.ensures.found (omega (arith, l.nodes)),
      ),
    )

pub returns : goal.returns
returns c =
    let at-counts-right = c.counts_right in
    let at-if1 = c.if-not-counts_right in
    let at-first-bad-type = c.first_bad_type-bad_type in
    let at-first-bad-input = c.first_bad_input-bad_input in
    let at-first-bad-node = c.first_bad_node-bad_node in record {
      reply = c.record_refusal.ensures ∙ content_by_searches _ _ _ _ (sym at-counts-right.ensures ∙ at-if1.false) at-first-bad-type.ensures at-first-bad-input.ensures at-first-bad-node.ensures.found;
      packed = packed_by_search _ _ _ _ _ c.record_refusal.ensures
          at-first-bad-node.ensures.packed;
    }

pub returns-then-not-counts_right : goal.returns-then-not-counts_right
unfolding refusal_of
returns-then-not-counts_right c = record {
  reply = rw c.at.ensures (wrong_counts _ _ _ _ (sym c.counts_right.ensures ∙ c.if-not-counts_right.true));
  packed = not_packed;
}
