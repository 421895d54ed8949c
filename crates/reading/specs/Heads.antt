-- The parts of the reader: the refusals of marks beside those of tables, and what fills tables. Assumes nothing.
use Rattle.std.specs.Prelude.{ℕ, ◌≤◌, Bool, ◌&&◌, List, length, ltb}
use Rattle.std.proofs.Math.Option.{Option, none, some}
use Rattle.lambdamix.specs.Script.{Script}
use Rattle.lambdamix.specs.Refusal.{Refusal, or_else, refused_unless}
use Rattle.script.specs.declared.Counts.{Counts}
use Rattle.script.specs.Answers.{Reading}
use Rattle.script.specs.File.{script_with}
use Rattle.script.specs.Tables.{Tables}
use Rattle.script.specs.Replies.{head_counts}
use Rattle.script.specs.Verdicts.{reading}
use Rattle.script.specs.Refusals.{earlier_by, file_refusal}

-- of a wrong mark and what the tables are refused by, "records in order, mark first; 6, 7, 8": a bad record (3 to 5) at a lower offset
-- comes first, all else after the mark
unfoldable pub marks_first : Option Refusal → Option Refusal → Option Refusal
marks_first none r = r
marks_first (some e) none = some e
marks_first (some e) (some f) = earlier_by (ltb f.number 6 && ltb f.place e.place) f e

-- the records of a file by counts
unfoldable pub script_by : Counts → List ℕ → Script
script_by n bs = script_with n.types n.inputs n.nodes bs

-- tables that are long enough for counts
pub record FillFits (n : Counts) (x : Tables) : Type 0 where
  pub parameters : n.types ≤ length x.parameters
  pub results : n.types ≤ length x.results
  pub inputs : n.inputs ≤ length x.inputs
  pub kinds : n.nodes ≤ length x.kinds
  pub a : n.nodes ≤ length x.a
  pub b : n.nodes ≤ length x.b
  pub c : n.nodes ≤ length x.c
  pub values : n.nodes ≤ length x.values

-- the reader's reply, by whether the tables are long enough
unfoldable pub read_reply : List ℕ → Bool → Reading
read_reply bs long = reading (or_else (file_refusal bs) (refused_unless long 21 0)) (head_counts bs)
