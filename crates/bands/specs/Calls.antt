-- A call that makes bands, on a count of rows, three lent columns and a lent output: paper 02, 2.4, "Answers". What each call replies and what it leaves in
-- the output; a reply's number, place and length are those of a call that writes. Assumes nothing.
use Rattle.std.specs.Prelude.{ℕ, Bool, ◌&&◌, List, ℤ, pos, length, get_or, leb}
use Rattle.std.proofs.Math.Option.{Option}
use Rattle.lambdamix.specs.Refusal.{Refusal, or_else, refused_unless}
use Rattle.script.specs.Answers.{Writing}
use Rattle.script.specs.File.{numbered, file_bytes}
use Rattle.script.specs.Tables.{room_refusal}
use Rattle.script.specs.Widths.{AllFit}
use Rattle.script.specs.Replies.{Reply, Form, telling, writing_reply, WritesTextAs}
use Rattle.bands.specs.declared.rows.Rows as Lent
use Rattle.bands.specs.Rows.{Band, rows_refusal}
use Rattle.bands.specs.BandScript.{band_script}

-- "low, high, grade"
pub record Columns : Type 0 where
  pub low : List ℤ
  pub high : List ℤ
  pub grade : List ℤ

abbrev pub columns_of : List ℤ → List ℤ → List ℤ → Columns
columns_of ls hs gs = record { low = ls; high = hs; grade = gs }

-- the columns that the code takes
abbrev pub columns_in : Lent.Rows → Columns
columns_in x = columns_of x.low.now x.high.now x.grade.now

-- past its end a column reads zeros
unfoldable pub row_in : Columns → ℕ → Band
row_in x k = record { low = get_or x.low k (pos 0); high = get_or x.high k (pos 0); grade = get_or x.grade k (pos 0) }

unfoldable pub rows_in : ℕ → Columns → List Band
rows_in m x = numbered (row_in x) 0 m

unfoldable pub columns_long : ℕ → Columns → Bool
columns_long m x = leb m (length x.low) && (leb m (length x.high) && leb m (length x.grade))

-- 1 [0] where a column is shorter than the count, as for every entry that takes tables; then 30, 31, 32
unfoldable pub columns_refusal : ℕ → Columns → Option Refusal
columns_refusal m x = or_else (refused_unless (columns_long m x) 1 0) (rows_refusal (rows_in m x))

-- the file of the rows' script
unfoldable pub band_bytes : ℕ → Columns → List ℕ
band_bytes m x = file_bytes (band_script (rows_in m x))

-- "21 comes last"
unfoldable pub bands_refusal : ℕ → Columns → List ℕ → Option Refusal
bands_refusal m x out = or_else (columns_refusal m x) (room_refusal (band_bytes m x) out)

-- What a call promises, in any form and under the plain name by the answer: its reply and the output after it; and that the columns hold numbers of 32 bits.
pub record MakesBandsAs {R : Type 0} (form : Form R (Reply ℕ)) (m : ℕ) (x : Columns) (before after : List ℕ) (r : R) : Type 0 where
  pub text : WritesTextAs form (bands_refusal m x before) (band_bytes m x) before after r
  pub low : AllFit x.low
  pub high : AllFit x.high
  pub grade : AllFit x.grade

abbrev pub MakesBands : ℕ → Columns → List ℕ → List ℕ → Writing → Type 0
MakesBands m x before after r = MakesBandsAs (telling writing_reply) m x before after r
