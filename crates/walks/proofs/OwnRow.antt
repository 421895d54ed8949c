-- The row that a walk reads at a node in a word: that of its kind, and past the table none. Assumes nothing.
use Prim.Native.Nat.{ℕ, ◌≤◌}
use mathlib.Core.Path.{◌≡◌, sym, ap, ◌∙◌}
use mathlib.Core.List.{[]}
use Rattle.lambdamix.specs.declared.Use.TheVariants.{Nothing}
use Rattle.script.specs.declared.Row.{Row}
use Rattle.script.specs.KindRows.{row_at}
use Rattle.script.specs.Words.{word_kind, word_a, word_b, word_c}
use Rattle.walks.specs.Walks.{kept_if, row_children, word_children}
use Rattle.script.proofs.TableLaws.{past_rows}

module _ (w : ℕ) {k : ℕ} (kind : k ≡ word_kind w) where
  module _ {m : ℕ} {r : Row} (read : r ≡ row_at m) (same : k ≡ m) where
    pub own_row : row_at (word_kind w) ≡ r
    own_row = ap row_at (sym kind ∙ same) ∙ sym read

    pub own_children : word_children w ≡ row_children r (word_a w) (word_b w) (word_c w)
    unfolding word_children
    own_children = rw own_row

  pub no_row : 13 ≤ k → row_at (word_kind w) ≡ record { 0 = Nothing; 1 = Nothing; 2 = Nothing }
  unfolding row_at
  no_row h = rw (← kind, past_rows k 0 h, past_rows k 1 h, past_rows k 2 h)

  pub no_children : 13 ≤ k → word_children w ≡ []
  unfolding word_children row_children kept_if
  no_children h = rw (no_row h)
