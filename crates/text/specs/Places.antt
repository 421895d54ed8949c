-- What a writer promises of a text and of the output before and after. A text that finds no room is counted all the same, and
-- then nothing is promised of the output. Assumes nothing.
use Rattle.std.specs.Prelude.{ℕ, ◌+◌, ◌≤◌, min, List, ◌++◌, ◌≡◌, length, take, drop}
use Rattle.script.specs.Tables.{over}

-- counts stop here; every list that can be lent is shorter
abbrev pub most : ℕ
most = 18446744073709551615

-- the text stands at the front, what lies behind it is as before, and its length is told
pub record Put (text before after : List ℕ) (r : ℕ) : Type 0 where
  pub counted : r ≡ length text
  pub stands : length text ≤ length before → after ≡ over text before

-- the text stands at a place, the rest is as before, and the next place is told
pub record Placed (text : List ℕ) (at : ℕ) (before after : List ℕ) (next : ℕ) : Type 0 where
  pub counted : next ≡ min (at + length text) most
  pub stands : length before ≤ most → at + length text ≤ length before → after ≡ take at before ++ over text (drop at before)
