-- Laws of the words. Assumes nothing.
use Prim.Native.Nat.{ℕ}
use mathlib.Core.Path.{◌≡◌, sym, ◌∙◌}
use mathlib.Core.List.{[], ◌∷◌}
use lib.ListN.{get_or, get_or-map}
use Rattle.lambdamix.specs.declared.Operator.TheVariants.{Add}
use Rattle.lambdamix.specs.Arithmetic.{operators}
use Rattle.lambdamix.specs.Text.{ascii}
use Rattle.lambdamix.specs.Term.{operator_of}
use Rattle.lambdamix.specs.Listing.{operator_text}

-- an operator's text is one sign of a table
pub sign_text : (c : ℕ) → operator_text (operator_of c) ≡ get_or (ascii "+-*/=<") c 43 ∷ []
unfolding operator_text operator_of ascii
sign_text c =
    sym (get_or-map operator_text operators c Add) ∙ get_or-map (λ (b : ℕ). b ∷ []) (ascii "+-*/=<") c 43
