-- Counts and tables that hold a script file, as the reader leaves them in tables that are long enough for every file. No public contract cites this: it is a
-- step of the proof. Assumes nothing.
use Rattle.std.specs.Prelude.{◌≡◌, ℕ, true, List}
use Rattle.std.proofs.Math.Option.{none}
use Rattle.lambdamix.specs.Limits.{max_types, max_inputs, max_nodes}
use Rattle.script.specs.declared.Counts.{Counts}
use Rattle.script.specs.File.{script_in}
use Rattle.script.specs.Refusals.{file_refusal}
use Rattle.script.specs.Replies.{head_counts}
use Rattle.script.specs.Tables.{Tables, tables_script, long_enough}
use Rattle.file.specs.Encodable.{AllBytes}

-- counts and tables hold a file that passes 1 to 8, and are long enough for every file
pub record Held (bs : List ℕ) (n : Counts) (x : Tables) : Type 0 where
  pub bytes : AllBytes bs
  pub read : file_refusal bs ≡ none
  pub counts : n ≡ head_counts bs
  pub script : tables_script n.types n.inputs n.nodes x ≡ script_in bs
  pub room : long_enough max_types max_inputs max_nodes x ≡ true
