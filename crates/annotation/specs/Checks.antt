-- The checker's reply on counts and tables: 1 [0] where the tables are shorter than the counts, else, by paper 01, "Order", 3 to 8
-- as the file of the tables, "then 9 and 10 together, 11". Assumes nothing.
use Rattle.std.specs.Prelude.{ℕ}
use Rattle.std.proofs.Math.Option.{Option}
use Rattle.lambdamix.specs.Script.{Script}
use Rattle.lambdamix.specs.Refusal.{Refusal, or_else}
use Rattle.lambdamix.specs.Checker.{annotation_refusal}
use Rattle.script.specs.declared.Counts.{Counts}
use Rattle.script.specs.Tables.{Tables, tables_script, tables_refusal}

unfoldable pub check_refusal : ℕ → ℕ → ℕ → Tables → Option Refusal
check_refusal t i n x = or_else (tables_refusal t i n x) (annotation_refusal (tables_script t i n x))

-- the script that counts and tables hold
abbrev pub script_of : Counts → Tables → Script
script_of n x = tables_script n.types n.inputs n.nodes x
