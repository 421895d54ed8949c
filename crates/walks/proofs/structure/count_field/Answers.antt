-- `walks::structure::count_field` meets its contract: a field that is no child counts nothing. Assumes nothing.
use mathlib.Core.Path.{sym, ◌∙◌}
use Rattle.walks.specs.Walks.{kept_if}
use Rattle.lambdamix.specs.Structure.{occurrences}
use Rattle.walks.proofs.UseCounts.{counted_none}
use Rattle.walks.proofs.structure.count_field.Goals as goal

pub returns-then-is_child : goal.returns-then-is_child
unfolding kept_if occurrences
returns-then-is_child c =
    let at-is-child = c.is_child in
    let at-if1 = c.if-is_child in
    let at-count-one = c.count_one in
    rw (sym at-is-child.ensures ∙ at-if1.true) at-count-one.ensures

pub returns-else-is_child : goal.returns-else-is_child
unfolding kept_if occurrences
returns-else-is_child c = rw (sym c.is_child.ensures ∙ c.if-is_child.false) (counted_none c.args.counts.now)
