-- The answers of reader, writer and checks as the code gives them, with the paper's number and values for each case: "A reply
-- carries number, place and steps .. a success has number 0 and place 0". Reader, writer and checks take no steps. The last
-- definitions are what these entries promise. Assumes nothing.
use Rattle.std.specs.Prelude.{ℕ, List, ◌≡◌, length, Err, Ok}
use Rattle.std.proofs.Math.Option.{Option, none, some}
use Rattle.lambdamix.specs.Refusal.{Refusal}
use Rattle.script.specs.declared.Counts.{Counts}
use Rattle.script.specs.Answers.{Verdict}
use Rattle.script.specs.Answers.{Reading}
use Rattle.script.specs.Answers.{Writing}
use Rattle.script.specs.File.{head_types, head_inputs, head_nodes, file_bytes}
use Rattle.script.specs.Widths.{LentTables}
use Rattle.script.specs.Tables.{Tables, tables_script, read_refusal, read_tables, write_refusal, written_output}

-- a reply: number, place, and the values that only a success carries
pub record Reply (A : Type 0) : Type 0 where
  pub number : ℕ
  pub place : ℕ
  pub carried : Option A

-- the reply where this refuses, if anything, and where a success carries a
unfoldable pub replying : {A : Type 0} → Option Refusal → A → Reply A
replying none a = record { number = 0; place = 0; carried = some a }
replying (some f) a = record { number = f.number; place = f.place; carried = none }

-- A form: how an answer tells a reply. By the answers below a reply is read of the code's result; the structs for callers in C are made of it.
abbrev pub Form : Type 0 → Type 0 → Type 1
Form R Q = R → Q → Type 0

abbrev pub telling : {R Q : Type 0} → (R → Q) → Form R Q
telling f r q = f r ≡ q

abbrev pub holding : {R Q : Type 0} → (Q → R) → Form R Q
holding f r q = r ≡ f q

-- ---- the answers

-- each case of a verdict; a success carries nothing
unfoldable pub verdict_reply : Verdict → Reply (Unit {0})
verdict_reply (Ok u) = record { number = 0; place = 0; carried = some tt }
verdict_reply (Err f) = record { number = f.number; place = f.place; carried = none }

-- each case of the reader's answer; a success carries the counts
unfoldable pub reading_reply : Reading → Reply Counts
reading_reply (Ok n) = record { number = 0; place = 0; carried = some n }
reading_reply (Err f) = record { number = f.number; place = f.place; carried = none }

-- each case of the answer where a text was to be written; a success carries how many bytes were
unfoldable pub writing_reply : Writing → Reply ℕ
writing_reply (Ok k) = record { number = 0; place = 0; carried = some k }
writing_reply (Err f) = record { number = f.number; place = f.place; carried = none }

-- ---- what the entries promise, in any form; under the plain names by the answers

-- a check: that this refuses, if anything
pub record TellsAs {R : Type 0} (form : Form R (Reply (Unit {0}))) (f : Option Refusal) (r : R) : Type 0 where
  pub reply : form r (replying f tt)

abbrev pub Tells : Option Refusal → Verdict → Type 0
Tells f r = TellsAs (telling verdict_reply) f r

-- the counts in a file's head
unfoldable pub head_counts : List ℕ → Counts
head_counts bs = record { types = head_types bs; inputs = head_inputs bs; nodes = head_nodes bs }

-- the reader, of a file and of the tables before and after
pub record ReadsAs {R : Type 0} (form : Form R (Reply Counts)) (bs : List ℕ) (before after : Tables) (r : R) : Type 0 where
  pub reply : form r (replying (read_refusal bs before) (head_counts bs))
  pub tables : after ≡ read_tables (read_refusal bs before) bs before

abbrev pub Reads : List ℕ → Tables → Tables → Reading → Type 0
Reads bs before after r = ReadsAs (telling reading_reply) bs before after r

-- where a text is to be written, of the answer and of the output before and after; f tells what refuses it
pub record WritesTextAs {R : Type 0} (form : Form R (Reply ℕ)) (f : Option Refusal) (text before after : List ℕ) (r : R) : Type 0 where
  pub reply : form r (replying f (length text))
  pub output : after ≡ written_output f text before

abbrev pub WritesText : Option Refusal → List ℕ → List ℕ → List ℕ → Writing → Type 0
WritesText f text before after r = WritesTextAs (telling writing_reply) f text before after r

-- the writer, of counts, tables and the output before and after; and that what it was lent has its columns' widths
pub record WritesAs {R : Type 0} (form : Form R (Reply ℕ)) (n : Counts) (x : Tables) (before after : List ℕ) (r : R) : Type 0 where
  pub text :
      WritesTextAs form (write_refusal n.types n.inputs n.nodes x before)
      (file_bytes (tables_script n.types n.inputs n.nodes x)) before after r
  pub lent : LentTables n.types n.inputs n.nodes x

abbrev pub Writes : Counts → Tables → List ℕ → List ℕ → Writing → Type 0
Writes n x before after r = WritesAs (telling writing_reply) n x before after r
