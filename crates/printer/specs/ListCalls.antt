-- What the listing promises: a text that is written or refused. Assumes nothing.
use Rattle.std.specs.Prelude.{ℕ, List}
use Rattle.std.proofs.Math.Option.{Option}
use Rattle.lambdamix.specs.Refusal.{Refusal, or_else}
use Rattle.lambdamix.specs.Listing as Text
use Rattle.script.specs.declared.Counts.{Counts}
use Rattle.script.specs.Answers.{Writing}
use Rattle.script.specs.Tables.{Tables, tables_script, tables_refusal, room_refusal}
use Rattle.script.specs.Widths.{LentTables}
use Rattle.script.specs.Replies.{Reply, Form, telling, writing_reply, WritesTextAs}

-- the listing of the script that tables hold
unfoldable pub tables_text : Counts → Tables → List ℕ
tables_text n x = Text.listing (tables_script n.types n.inputs n.nodes x)

-- 1 to 8 of the tables, then 21
unfoldable pub list_refusal : Counts → Tables → List ℕ → Option Refusal
list_refusal n x out = or_else (tables_refusal n.types n.inputs n.nodes x) (room_refusal (tables_text n x) out)

-- what the listing promises of counts, tables and the output before and after, for every call, in any form; and that what it was lent
-- has its columns' widths
pub record ListsAs {R : Type 0} (form : Form R (Reply ℕ)) (n : Counts) (x : Tables) (before after : List ℕ) (r : R) : Type 0 where
  pub text : WritesTextAs form (list_refusal n x before) (tables_text n x) before after r
  pub lent : LentTables n.types n.inputs n.nodes x

abbrev pub ListsTables : Counts → Tables → List ℕ → List ℕ → Writing → Type 0
ListsTables n x before after r = ListsAs (telling writing_reply) n x before after r
