-- Rows of bands for a coin sensor: paper 02, 2.4: "Testers keep their grades as rows: low, high, grade (0 to 255), ends inclusive." What is refused of
-- rows, then what the paper wants of them: "It takes 1 to 32 rows, rising, and checks that every 32-bit reading falls in exactly one." That the two agree
-- is `rows_accepted` of proofs/Covering.antt. Assumes nothing.
use Rattle.std.specs.Prelude.{ℕ, zero, suc, ◌≤◌, ◌<◌, ◌≡◌, Bool, true, false, ◌&&◌, List, ℤ, pos, length, get_or, ◌≤ℤ◌, ◌<ℤ◌, leb, ltb}
use Rattle.std.proofs.Math.Option.{Option}
use Rattle.std.proofs.Math.IntN.{suc_ℤ}
use Rattle.std.specs.Int.Signed.{lt_z, le_z}
use Rattle.lambdamix.specs.Arithmetic.{lowest, highest, Fits32}
use Rattle.lambdamix.specs.Refusal.{Refusal, or_else, refused_unless, first_failing, refused_at}

-- "low, high, grade"
pub record Band : Type 0 where
  pub low : ℤ
  pub high : ℤ
  pub grade : ℤ

abbrev pub blank_band : Band
blank_band = record { low = pos 0; high = pos 0; grade = pos 0 }

unfoldable pub band_at : List Band → ℕ → Band
band_at rows k = get_or rows k blank_band

-- "It takes 1 to 32 rows"
unfoldable pub max_rows : ℕ
max_rows = 32

-- "grade (0 to 255)"
abbrev pub max_grade : ℤ
max_grade = pos 255

-- ---- what is refused

-- not "30, no rows or more than 32 [0]"
unfoldable pub count_right : ℕ → Bool
count_right m = leb 1 m && leb m max_rows

-- not "or low above high or a grade outside 0 to 255 [row, from 0]"
unfoldable pub band_right : Band → Bool
band_right r = le_z r.low r.high && (le_z (pos 0) r.grade && le_z r.grade max_grade)

-- not "31, low not above the row before's high [row]"
unfoldable pub above_before : List Band → ℕ → Bool
above_before rows zero = true
above_before rows (suc k) = lt_z (band_at rows k).high (band_at rows (suc k)).low

-- the lowest reading that the rows before row k leave
unfoldable pub left_at : List Band → ℕ → ℤ
left_at rows zero = lowest
left_at rows (suc k) = suc_ℤ (band_at rows k).high

-- from where row k takes readings; after the last row, from past the range
unfoldable pub start_by : Bool → ℤ → ℤ
start_by true z = z
start_by false z = suc_ℤ highest

unfoldable pub start_at : List Band → ℕ → ℤ
start_at rows k = start_by (ltb k (length rows)) (band_at rows k).low

-- not "32, a gap [row after it, or the row count]"
unfoldable pub joins_before : List Band → ℕ → Bool
joins_before rows k = le_z (start_at rows k) (left_at rows k)

-- "all rows are tried for 30, then 31, then 32"
unfoldable pub rows_refusal : List Band → Option Refusal
rows_refusal rows =
    or_else (refused_unless (count_right (length rows)) 30 0)
    (or_else (refused_at 30 (first_failing (λ k. band_right (band_at rows k)) 0 (length rows)))
    (or_else (refused_at 31 (first_failing (above_before rows) 0 (length rows)))
    (refused_at 32 (first_failing (joins_before rows) 0 (suc (length rows))))))

-- ---- what is wanted

-- "ends inclusive": the reading z falls in row k
pub record FallsIn (z : ℤ) (rows : List Band) (k : ℕ) : Type 0 where
  pub row : k < length rows
  pub from : (band_at rows k).low ≤ℤ z
  pub to : z ≤ℤ (band_at rows k).high

-- "falls in exactly one"
pub record FallsInOne (z : ℤ) (rows : List Band) : Type 0 where
  pub index : ℕ
  pub falls : FallsIn z rows index
  pub only : (j : ℕ) → FallsIn z rows j → j ≡ index

-- a row by itself
pub record GoodBand (r : Band) : Type 0 where
  pub ordered : r.low ≤ℤ r.high
  pub least : pos 0 ≤ℤ r.grade
  pub most : r.grade ≤ℤ max_grade

-- "1 to 32 rows, rising, .. every 32-bit reading falls in exactly one"
pub record GoodRows (rows : List Band) : Type 0 where
  pub any : 1 ≤ length rows
  pub few : length rows ≤ max_rows
  pub each : (k : ℕ) → k < length rows → GoodBand (band_at rows k)
  pub rising : (k : ℕ) → suc k < length rows → (band_at rows k).low <ℤ (band_at rows (suc k)).low
  pub covered : (z : ℤ) → Fits32 z → FallsInOne z rows

-- low, high and grade are "signed 32-bit whole numbers"
pub record BandFits (r : Band) : Type 0 where
  pub low : Fits32 r.low
  pub high : Fits32 r.high
  pub grade : Fits32 r.grade
