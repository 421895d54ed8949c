-- What a call that made bands leaves, for the theorems of proofs/Grading.antt: good rows, a file that is accepted, and a script whose plain run grades each
-- reading by its row. Assumes nothing.
use Rattle.std.specs.Prelude.{ℕ, ◌+◌, ◌-◌, ◌*◌, ◌≤◌, ◌≡◌, true, List, [], ◌∷◌, ℤ, length, take}
use Rattle.std.proofs.Math.Option.{none}
use Rattle.lambdamix.specs.Arithmetic.{Fits32}
use Rattle.lambdamix.specs.Limits.{max_fuel}
use Rattle.lambdamix.specs.Value.{number}
use Rattle.lambdamix.specs.PlainRun.{a_number, plain_job}
use Rattle.lambdamix.specs.PlainRules.{Evaluates}
use Rattle.script.specs.File.{script_in}
use Rattle.script.specs.Tables.{Tables, tables_script, long_enough}
use Rattle.script.specs.Answers.{Reading}
use Rattle.script.specs.Answers.{Verdict}
use Rattle.script.specs.Replies.{head_counts, reading_reply, verdict_reply, Reads, Tells}
use Rattle.file.specs.AcceptedFile.{AcceptedFile}
use Rattle.annotation.specs.Checks.{check_refusal}
use Rattle.cells.specs.Room.{heap_suffices}
use Rattle.plainrun.specs.Running.{Told, ran, running, replied, Runs}
use Rattle.bands.specs.Rows.{Band, band_at, FallsIn, GoodRows}
use Rattle.bands.specs.BandScript.{band_script, band_nodes, band_length}
use Rattle.bands.specs.Calls.{Columns, rows_in}

-- the most steps and the most depth of a plain run of m rows' script: 125 and 33 for 32 rows
unfoldable pub band_steps : ℕ → ℕ
band_steps m = 4 * m - 3

unfoldable pub band_depth : ℕ → ℕ
band_depth m = m + 1

-- by the rules of Figure 1 the plain run on the reading z ends with the number g, within these steps and this depth
pub record GradesAs (rows : List Band) (z g : ℤ) : Type 0 where
  pub steps : ℕ
  pub derived : Evaluates (band_depth (length rows)) (plain_job (band_script rows) (z ∷ [])) (number g) steps
  pub few : steps ≤ band_steps (length rows)

-- the file in an output: as many bytes as m rows give
unfoldable pub band_file : ℕ → List ℕ → List ℕ
band_file m left = take (band_length m) left

-- tables that hold the script of that file, such as the reader fills
pub record HoldFile (m : ℕ) (left : List ℕ) (y : Tables) : Type 0 where
  pub long : long_enough 0 1 (band_nodes m) y ≡ true
  pub script : tables_script 0 1 (band_nodes m) y ≡ script_in (band_file m left)

-- a plain run of those tables on the reading z, with fuel 16,000 and this store, gives the number g in at most so many steps
pub record RunGives (m : ℕ) (y : Tables) (heap : List ℕ) (z g : ℤ) : Type 0 where
  pub steps : ℕ
  pub gives : running 0 1 (band_nodes m) y (z ∷ []) max_fuel heap ≡ ran (a_number g) steps
  pub few : steps ≤ band_steps m

pub record GradesByRows (m : ℕ) (x : Columns) (left : List ℕ) : Type 0 where
  -- "1 to 32 rows, rising, .. every 32-bit reading falls in exactly one"
  pub good : GoodRows (rows_in m x)
  -- "one late input and no types": what the file's head counts
  pub counts : head_counts (band_file m left) ≡ record { types = 0; inputs = 1; nodes = band_nodes m }
  -- "It is accepted": the file in the output by its bytes, 1 to 11,
  pub accepted : AcceptedFile (band_file m left)
  -- and by `check` on tables that hold its script
  pub checked : (y : Tables) → HoldFile m left y → check_refusal 0 1 (band_nodes m) y ≡ none
  -- "its plain run with fuel 16,000 and stores to match grades each reading by its row"
  pub graded :
      (y : Tables) → HoldFile m left y → (heap : List ℕ) → heap_suffices max_fuel (length heap) ≡ true → (z : ℤ) → Fits32 z → (k : ℕ) →
      FallsIn z (rows_in m x) k → RunGives m y heap z (band_at (rows_in m x) k).grade

-- The same as the entries tell it, one call after the other: the reader's call on the file in the output, with tables that are long enough, then the
-- checker's and the plain run's calls on the tables that it filled.
pub record ServesCalls (m : ℕ) (x : Columns) (left : List ℕ) (y z : Tables) : Type 0 where
  pub read : (q : Reading) → Reads (band_file m left) y z q → (reading_reply q).number ≡ 0
  pub checked : (v : Verdict) → Tells (check_refusal 0 1 (band_nodes m) z) v → (verdict_reply v).number ≡ 0
  pub graded :
      (reading : ℤ) → Fits32 reading → (k : ℕ) → FallsIn reading (rows_in m x) k → (heap after : List ℕ) → heap_suffices max_fuel (length heap) ≡ true →
      (a : Told) → Runs (record { types = 0; inputs = 1; nodes = band_nodes m }) z (reading ∷ []) max_fuel heap after a →
      (steps : ℕ) × (replied a ≡ ran (a_number (band_at (rows_in m x) k).grade) steps) × (steps ≤ band_steps m)
