-- What the printing of lines promises: a text stands at the output's start, and how long it can be. Assumes nothing.
use Rattle.std.specs.Prelude.{ℕ, ◌≤◌, List, length}
use Rattle.lambdamix.specs.Limits.{max_bytes}
use Rattle.text.specs.Places.{Placed}
use Rattle.streams.specs.Lines.{counts_text}

-- a text that fits is printed
pub record Prints (text before after : List ℕ) (r : ℕ) : Type 0 where
  pub short : length text ≤ max_bytes
  pub placed : Placed text 0 before after r

-- the most bytes of the lines before a listing
unfoldable pub lines_bytes : ℕ
lines_bytes = 64

-- the three lines before a listing are placed
pub record CountsPlaced (k n : ℕ) (before after : List ℕ) (r : ℕ) : Type 0 where
  pub short : length (counts_text k n) ≤ lines_bytes
  pub placed : Placed (counts_text k n) 0 before after r
