-- `tables::records::record_refusal` meets its contract: the first search that found something tells the place. Assumes nothing.
use mathlib.Core.Path.{ap}
use native.Mathlib.Omega.{arith}
use Rattle.lambdamix.specs.Refusal.{or_else}
use Rattle.script.specs.Refusals.{refused_record}
use Rattle.script.specs.Verdicts.{found_at, refusal_of}
use Rattle.tables.proofs.records.record_refusal.Goals as goal

pub overflow_cast-j : goal.overflow_cast-j
unfolding found_at
overflow_cast-j c = omega (arith, c.requires.0 _ (ap found_at c.in-Some.is))

pub overflow_cast-j-in-Some-bad_input : goal.overflow_cast-j-in-Some-bad_input
unfolding found_at
overflow_cast-j-in-Some-bad_input c = omega (arith, c.requires.1.0 _ (ap found_at c.in-Some-bad_input.is))

pub overflow_cast-j-in-Some-bad_node : goal.overflow_cast-j-in-Some-bad_node
unfolding found_at
overflow_cast-j-in-Some-bad_node c = omega (arith, c.requires.1.1 _ (ap found_at c.in-Some-bad_node.is))

pub returns-in-Some : goal.returns-in-Some
unfolding refusal_of refused_record found_at or_else
returns-in-Some c = rw (c.in-Some.is, c.at.ensures, c.type_offset.ensures)

pub returns-in-Some-bad_input : goal.returns-in-Some-bad_input
unfolding refusal_of refused_record found_at or_else
returns-in-Some-bad_input c = rw (c.in_default.is, c.in-Some-bad_input.is, c.at-in-Some-bad_input.ensures, c.input_offset.ensures)

pub returns-in-Some-bad_node : goal.returns-in-Some-bad_node
unfolding refusal_of refused_record found_at or_else
returns-in-Some-bad_node c =
    rw (c.in_default.is, c.in_default-bad_input.is, c.in-Some-bad_node.is, c.at-in-Some-bad_node.ensures, c.node_offset.ensures)

pub returns : goal.returns
unfolding refusal_of refused_record found_at or_else
returns c = rw (c.in_default.is, c.in_default-bad_input.is, c.in_default-bad_node.is)
