-- From the walk's promise to the listing's: the text that it puts is the script's listing, and it is put whole or not at all.
-- Assumes nothing.
use Prim.Native.Nat.{ℕ, ◌+◌, ◌≤◌, ◌<◌, min}
use mathlib.Core.Path.{◌≡◌, refl, ap, ap₂, ◌∙◌}
use mathlib.Core.List.{List, [], ◌∷◌, ◌++◌}
use mathlib.Core.Option.{none}
use native.Mathlib.Omega.{arith}
use lib.ListN.{length, get_or}
use lib.Dec.{ltb}
use borrow.Author.Tests.{ltb-true}
use Rattle.std.specs.Prelude.{Ok, Err}
use Rattle.lambdamix.specs.Script.{Script, Node, node_count, input_count, root}
use Rattle.lambdamix.specs.Text.{ascii}
use Rattle.lambdamix.specs.Listing.{listing}
use Rattle.lambdamix.proofs.KindCases.{kind_of}
use Rattle.lambdamix.proofs.Tests.{and_both}
use Rattle.script.specs.declared.Counts.{Counts}
use Rattle.script.specs.Refusals.{node_fits}
use Rattle.script.specs.Verdicts.{Fitted}
use Rattle.script.specs.Tables.{Tables, row_node, tables_script, tables_refusal, over}
use Rattle.script.specs.Words.{Packed}
use Rattle.script.proofs.Rows.{input_count_lem, node_count_lem, node_row}
use Rattle.script.proofs.Sound.{nodes_right, node_there}
use Rattle.script.proofs.Texts.{text_fits, text_short}
use Rattle.layout.specs.Nodes.{node_text, nodes_text, word_node, whole_text}
use Rattle.printer.specs.ListCalls.{tables_text}
use Rattle.printer.specs.NodeLists.{Lists}
use Rattle.text.specs.Places.{Placed, most}
use Rattle.layout.proofs.Trees.{held_text, tree_text}

-- ---- the text

-- the listing of the script of some tables, from words that hold its nodes
module _ (t i n : ℕ) (x : Tables) (ws : List ℕ) (e : tables_refusal t i n x ≡ none) (packed : Packed n (row_node x) ws) where
  kind_known : (j : ℕ) → j < n → (row_node x j).kind < 13
  unfolding node_fits
  kind_known j l = ltb-true _ _ (and_both (ltb (row_node x j).kind 13) _ (nodes_right t i n x e j l)).0

  same_texts : (m j : ℕ) → j < n → (self : ℕ → List ℕ) → node_text m self (row_node x j) ≡ node_text m self (word_node (get_or ws j 0))
  unfolding row_node
  same_texts m j l self = held_text m self (row_node x j).kind (kind_of _ (kind_known j l)) (packed.each j l)

  listing_text : listing (tables_script t i n x) ≡ whole_text i n ws
  unfolding listing input_count root node_count ascii
  listing_text =
      let s : Script = tables_script t i n x in
      let nodes : ℕ → Node = λ j. word_node (get_or ws j 0) in
      let l : node_count s ≡ n = node_count_lem t i n x in
      let h : 0 < n = node_there t i n x e in
      ap (λ (l : List ℕ). l ++ (10 ∷ []))
      (tree_text (input_count s) s nodes
      (λ j k self. ap (node_text (input_count s) self) (node_row t i n x j (omega arith)) ∙ same_texts (input_count s) j (omega arith) self)
      (root s) (omega arith)
      ∙ ap₂ (λ m j. nodes_text m nodes j) (input_count_lem t i n x) (omega arith))

-- ---- the answer

-- what a walk that is lent no room gives back is nothing
pub untouched : (y x : List ℕ) → length y ≡ 0 → y ++ x ≡ x
untouched [] x h = refl
untouched (b ∷ y) x h = absurd (omega arith)

-- Whether the walk's count is at most the output's length decides both.
module _ {text x y : List ℕ} {k : ℕ} (short : length x < most) (same : y ≡ x) (counted : k ≡ min (0 + length text) most) where
  puts_whole : {z : List ℕ} {e : ℕ} → k ≤ length y → Placed text 0 y z e → Fitted text x z (Ok k)
  puts_whole h p =
      text_fits (omega (arith, ap length same)) (omega (arith, ap length same))
      (p.stands (omega (arith, ap length same)) (omega (arith, ap length same)) ∙ ap (over text) same)

  puts_nothing : length y < k → Fitted text x y (Err (record { number = 21; place = 0 }))
  puts_nothing h = text_short refl (omega (arith, ap length same)) same

-- the same of a walk of the whole output, as grind reads it
pub lists_written :
    (n : Counts) (ws x z : List ℕ) (k : ℕ) → length x < most → k ≡ min (0 + length (whole_text n.inputs n.nodes ws)) most → k ≤ length x →
    z ≡ over (whole_text n.inputs n.nodes ws) x → Lists n ws x z (Ok k)
unfolding tables_text
lists_written n ws x z k short counted h p =
    record { lists = λ t e q. rw (listing_text _ _ _ t ws e q) (text_fits (omega arith) h p) }

-- ---- the entry: x is the output before, y what the first walk gives back of the part of length 0 that it is lent

module _ {n : Counts} {ws : List ℕ} {x y w : List ℕ} {k : ℕ} (short : length x < most) (nothing : length y ≡ 0)
    (first : Placed (whole_text n.inputs n.nodes ws) 0 w y k) where
  pub lists_whole :
      {z : List ℕ} {e : ℕ} → k ≤ length (y ++ x) → Placed (whole_text n.inputs n.nodes ws) 0 (y ++ x) z e → Lists n ws x z (Ok k)
  unfolding tables_text
  lists_whole h p = record {
    lists = λ t e q.
        rw (listing_text _ _ _ t ws e q) (puts_whole short (untouched y x nothing) first.counted h p);
  }

  pub lists_nothing : length (y ++ x) < k → Lists n ws x (y ++ x) (Err (record { number = 21; place = 0 }))
  unfolding tables_text
  lists_nothing h = record {
    lists = λ t e q.
        rw (listing_text _ _ _ t ws e q) (puts_nothing short (untouched y x nothing) first.counted h);
  }
