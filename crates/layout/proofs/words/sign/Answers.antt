-- `layout::words::sign` meets its contract. Assumes nothing.
use mathlib.Core.Path.{sym, ap, ◌∙◌}
use mathlib.Core.List.{[], ◌∷◌}
use Prim.Native.Nat.{ℕ}
use Rattle.lambdamix.specs.Text.{ascii}
use Rattle.layout.proofs.WordLaws.{sign_text}
use Rattle.layout.proofs.words.sign.Goals as goal

pub returns : goal.returns
unfolding ascii
returns c = sign_text c.args.operator ∙ ap (λ (b : ℕ). b ∷ []) (sym c.at.ensures)
