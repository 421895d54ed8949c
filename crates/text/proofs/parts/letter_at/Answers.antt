-- `text::parts::letter_at` meets its contract. Assumes nothing.
use borrow.Author.Rules.{rules}
use mathlib.Core.List.{[], ◌∷◌}
use Rattle.text.proofs.parts.letter_at.Goals as goal

pub returns : goal.returns
returns c = c.written_at.ensures (c.args.letter ∷ []) (λ x y n p. search rules)
