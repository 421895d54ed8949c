-- `text::decimals::decimal_at` meets its contract. Assumes nothing.
use borrow.Author.Rules.{rules}
use Rattle.lambdamix.specs.Text.{decimal}
use Rattle.text.proofs.decimals.decimal_at.Goals as goal

pub returns : goal.returns
returns c = c.written_at.ensures (decimal c.args.z) (λ x y n p. search rules)
