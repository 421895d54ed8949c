-- `walks::structure::first_not_one` meets its contract: the closure decides whether a count is one. Assumes nothing.
use borrow.Author.Rules.{rules}
use Rattle.walks.proofs.structure.first_not_one.Goals as goal

pub returns : goal.returns
returns c = c.first_failing.ensures _ (λ j b l q. search rules)
