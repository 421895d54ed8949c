-- What the listing promises by the verdict on the tables, each equation as grind reads it. Assumes nothing.
use Rattle.std.specs.Prelude.{Err, Ok}
use Prim.Native.Nat.{ℕ}
use mathlib.Core.Path.{◌≡◌, refl, sym}
use mathlib.Core.List.{List}
use lib.ListN.{length}
use Rattle.script.specs.declared.Counts.{Counts}
use Rattle.script.specs.declared.Refusal.{Refusal}
use Rattle.script.specs.Answers.{Writing}
use Rattle.script.specs.Tables.{Tables, tables_refusal, written_output}
use Rattle.script.specs.Replies.{Tells, replying, writing_reply}
use Rattle.script.proofs.ReplyLaws.{tells_refusal}
use Rattle.script.proofs.Texts.{writes_passed, writes_refused}
use Rattle.script.proofs.Verdicts.{passed_tells_none}
use Rattle.tables.specs.PackedTables.{PackedTables}
use Rattle.printer.specs.ListCalls.{tables_text, list_refusal}
use Rattle.printer.specs.NodeLists.{Lists, WritesList}

-- of tables that are refused nothing is written,
module _ (n : Counts) (x : Tables) (out : List ℕ) (f : Refusal) (told : Tells (tables_refusal n.types n.inputs n.nodes x) (Err f)) where
  refused : WritesList n x out out (Err f)
  unfolding list_refusal
  refused = writes_refused (tells_refusal told) refl refl

  pub refused_reply : replying (list_refusal n x out) (length (tables_text n x)) ≡ writing_reply (Err f)
  refused_reply = sym refused.reply

  pub refused_output : written_output (list_refusal n x out) (tables_text n x) out ≡ out
  refused_output = sym refused.output

-- and those that pass, whose nodes are in the words, are listed.
module _ (n : Counts) (x : Tables) (words before after : List ℕ) (r : Writing) (told : Tells (tables_refusal n.types n.inputs n.nodes x) (Ok tt))
    (packed : PackedTables (Ok tt) n.nodes x words) (listed : Lists n words before after r) where
  passed : WritesList n x before after r
  unfolding list_refusal
  passed =
      let free = tells_refusal told in
      writes_passed free refl (listed.lists _ (passed_tells_none free refl) (packed.nodes refl))

  pub passed_reply : replying (list_refusal n x before) (length (tables_text n x)) ≡ writing_reply r
  passed_reply = sym passed.reply

  pub passed_output : written_output (list_refusal n x before) (tables_text n x) before ≡ after
  passed_output = sym passed.output
