-- The tests of rows, as the code makes them on columns: a row by itself, and the numbers next to rows. Assumes nothing.
use Prim.Native.Nat.{ℕ, zero, suc, ◌-◌, ◌≤◌, ◌<◌}
use mathlib.Core.Path.{◌≡◌, refl, sym, ap, ◌∙◌}
use mathlib.Core.Bool.{Bool, true, false}
use mathlib.Core.List.{List}
use native.Mathlib.Omega.{arith}
use lib.IntN.{ℤ, pos, suc_ℤ}
use lib.ListN.{length, get_or}
use lib.Signed.{lt_z, le_z}
use lib.Dec.{ltb}
use borrow.Author.Tests.{lt-ltb, le-ltb, ltb-true}
use Rattle.lambdamix.specs.Arithmetic.{lowest, highest}
use Rattle.script.proofs.Numbered.{length_numbered, row_at_lem}
use Rattle.bands.specs.Rows.{Band, blank_band, band_at, max_grade, band_right, above_before, left_at, start_by, start_at, joins_before}
use Rattle.bands.specs.Calls.{Columns, columns_of, row_in, rows_in}
use Rattle.bands.specs.Steps.{above_in, left_in, start_in}

-- ---- a row by itself

abbrev row : ℤ → ℤ → ℤ → Band
row l h g = record { low = l; high = h; grade = g }

module _ (l h g : ℤ) where
  pub row_right : {t : Bool} → le_z l h ≡ true → le_z (pos 0) g ≡ true → t ≡ le_z g max_grade → t ≡ band_right (row l h g)
  unfolding band_right
  row_right p q e = rw (p, q) e

  pub grade_negative : le_z l h ≡ true → le_z (pos 0) g ≡ false → false ≡ band_right (row l h g)
  unfolding band_right
  grade_negative p q = rw (p, q)

  pub low_above_high : le_z l h ≡ false → false ≡ band_right (row l h g)
  unfolding band_right
  low_above_high p = rw p

-- ---- the rows in columns

module _ (m : ℕ) (x : Columns) where
  pub rows_length : length (rows_in m x) ≡ m
  unfolding rows_in
  rows_length = length_numbered (row_in x) 0 m

  pub band_at_lem : (k : ℕ) → k < m → band_at (rows_in m x) k ≡ row_in x k
  unfolding rows_in band_at
  band_at_lem k h = row_at_lem (row_in x) m blank_band k h

-- ---- next to the rows before, by columns

module _ (ls hs : List ℤ) {k : ℕ} where
  pub first_above : k < 1 → true ≡ above_in ls hs k
  unfolding above_in
  first_above h = sym (ap (above_in ls hs) (let e : k ≡ 0 = omega arith in e))

  pub later_above : {j : ℕ} {y z : ℤ} {t : Bool} → 1 ≤ k → j ≡ k - 1 → y ≡ get_or hs j (pos 0) → z ≡ get_or ls k (pos 0) → t ≡ lt_z y z → t ≡ above_in ls hs k
  unfolding above_in
  later_above {j} h e p q r =
      let d : k ≡ suc j = omega arith in r ∙ rw (p, q, d)

module _ (hs : List ℤ) {k : ℕ} where
  pub first_left : k < 1 → lowest ≡ left_in hs k
  unfolding left_in
  first_left h = sym (ap (left_in hs) (let e : k ≡ 0 = omega arith in e))

  pub later_left : {j : ℕ} {y z : ℤ} → 1 ≤ k → j ≡ k - 1 → y ≡ get_or hs j (pos 0) → z ≡ suc_ℤ y → z ≡ left_in hs k
  unfolding left_in
  later_left {j} h e p q = let d : k ≡ suc j = omega arith in q ∙ rw (p, d)

module _ (ls : List ℤ) {m k : ℕ} where
  pub row_start : {y z : ℤ} → k < m → y ≡ get_or ls k (pos 0) → z ≡ y → z ≡ start_in ls m k
  unfolding start_in start_by
  row_start h p q = q ∙ p ∙ rw (lt-ltb k m h)

  pub past_start : m ≤ k → suc_ℤ highest ≡ start_in ls m k
  unfolding start_in start_by
  past_start h = rw (le-ltb k m h)

-- ---- the same of rows

module _ (x : Columns) (k : ℕ) where
  pub columns_right :
      {l h g : ℤ} {t : Bool} → l ≡ get_or x.low k (pos 0) → h ≡ get_or x.high k (pos 0) → g ≡ get_or x.grade k (pos 0) → t ≡ band_right (row l h g) →
      t ≡ band_right (row_in x k)
  unfolding row_in
  columns_right p q r e = rw (← p, ← q, ← r) e

module _ (m : ℕ) (x : Columns) {k : ℕ} {t : Bool} where
  pub right_told : k < m → t ≡ band_right (row_in x k) → t ≡ band_right (band_at (rows_in m x) k)
  right_told w e = rw (band_at_lem m x k w) e

above_same : (m : ℕ) (ls hs gs : List ℤ) (k : ℕ) → k < m → above_before (rows_in m (columns_of ls hs gs)) k ≡ above_in ls hs k
unfolding above_before above_in row_in
above_same m ls hs gs zero h = refl
above_same m ls hs gs (suc k) h = rw (band_at_lem m (columns_of ls hs gs) k (omega arith), band_at_lem m (columns_of ls hs gs) (suc k) h)

start_same : (m : ℕ) (ls hs gs : List ℤ) (k : ℕ) → start_at (rows_in m (columns_of ls hs gs)) k ≡ start_in ls m k
unfolding start_at start_in start_by row_in
start_same m ls hs gs k = rw (rows_length m (columns_of ls hs gs)) (by (ltb k m) refl)
  where
    by : (t : Bool) → ltb k m ≡ t → start_by t (band_at (rows_in m (columns_of ls hs gs)) k).low ≡ start_by t (get_or ls k (pos 0))
    by true e = rw (band_at_lem m (columns_of ls hs gs) k (ltb-true k m e))
    by false e = refl

left_same : (m : ℕ) (ls hs gs : List ℤ) (k : ℕ) → k ≤ m → left_at (rows_in m (columns_of ls hs gs)) k ≡ left_in hs k
unfolding left_at left_in row_in
left_same m ls hs gs zero h = refl
left_same m ls hs gs (suc k) h = rw (band_at_lem m (columns_of ls hs gs) k (omega arith))

module _ (m : ℕ) (ls hs gs : List ℤ) {k : ℕ} {t : Bool} where
  pub above_told : k < m → t ≡ above_in ls hs k → t ≡ above_before (rows_in m (columns_of ls hs gs)) k
  above_told w e = e ∙ sym (above_same m ls hs gs k w)

  pub joins_told : k < suc m → t ≡ le_z (start_in ls m k) (left_in hs k) → t ≡ joins_before (rows_in m (columns_of ls hs gs)) k
  unfolding joins_before
  joins_told w e = rw (start_same m ls hs gs k, left_same m ls hs gs k (omega arith)) e
