-- What the listing of nodes in words promises, for any tables whose nodes the words hold. No public contract cites this file. Assumes nothing.
use Rattle.std.specs.Prelude.{ℕ, ◌≡◌, List}
use Rattle.std.proofs.Math.Option.{none}
use Rattle.script.specs.declared.Counts.{Counts}
use Rattle.script.specs.Answers.{Writing}
use Rattle.script.specs.Tables.{Tables, row_node, tables_refusal}
use Rattle.script.specs.Replies.{WritesText}
use Rattle.script.specs.Verdicts.{Fitted}
use Rattle.script.specs.Words.{Packed}
use Rattle.printer.specs.ListCalls.{tables_text, list_refusal}

-- for all with which refusals 1 to 8 tell nothing
pub record Lists (n : Counts) (words : List ℕ) (before after : List ℕ) (r : Writing) : Type 0 where
  pub lists :
      (x : Tables) → tables_refusal n.types n.inputs n.nodes x ≡ none → Packed n.nodes (row_node x) words →
      Fitted (tables_text n x) before after r

-- 1 to 8 of tables, then 21, or the listing
abbrev pub WritesList : Counts → Tables → List ℕ → List ℕ → Writing → Type 0
WritesList n x before after r = WritesText (list_refusal n x before) (tables_text n x) before after r
