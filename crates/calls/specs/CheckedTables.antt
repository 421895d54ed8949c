-- Promises on tables past 1 to 8, by the columns and words that a function has of them. No entry's contract cites this file. Assumes nothing.
use Rattle.std.specs.Prelude.{ℕ, List, ℤ}
use Rattle.script.specs.declared.Counts.{Counts}
use Rattle.script.specs.Tables.{Tables, row_node, tables_of}
use Rattle.script.specs.Words.{Packed}
use Rattle.annotation.specs.AnswerWords.{Passes}

-- of all tables with these type and input columns of which none of refusals 1 to 8 holds and whose nodes these words hold
abbrev pub OfTables : Counts → List ℕ → List ℕ → List ℕ → List ℕ → (Tables → Type 0) → Type 0
OfTables n ps rs is ws P =
    (ks xs ys zs : List ℕ) (vs : List ℤ) → Passes n (tables_of ps rs is ks xs ys zs vs) →
    Packed n.nodes (row_node (tables_of ps rs is ks xs ys zs vs)) ws → P (tables_of ps rs is ks xs ys zs vs)
