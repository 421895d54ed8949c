-- Refusals 3 to 5 of counts and tables, the check of contents within `tables_refusal`. No public contract cites this file. Assumes nothing.
use Rattle.std.specs.Prelude.{ℕ}
use Rattle.std.proofs.Math.Option.{Option}
use Rattle.lambdamix.specs.Refusal.{Refusal, or_else, refused_unless}
use Rattle.script.specs.Refusals.{counts_right, content_of}
use Rattle.script.specs.Tables.{Tables, row_type, row_input, row_node}

-- refusals 3, 4 and 5 of counts and tables
unfoldable pub content_in : ℕ → ℕ → ℕ → Tables → Option Refusal
content_in t i n x =
    or_else (refused_unless (counts_right t i n) 3 0) (content_of t i n (row_type x) (row_input x) (row_node x))
