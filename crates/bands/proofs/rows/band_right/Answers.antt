-- `bands::rows::band_right` meets its contract: by its three tests. Assumes nothing.
use Rattle.std.proofs.Common.{◌≡◌, Bool, ℤ, pos, sym, ap, ◌∙◌, true≢false}
use borrow.Author.Rules.{rules}
use lib.Signed.{le_z}
use mir.Syntax.{w32}
use mir.Val.{SFits}
use mir.Facts.{to_z-of_z}
use Rattle.lambdamix.proofs.Signed.{held, read_both}
use Rattle.bands.proofs.RowTests.{row_right, grade_negative, low_above_high}
use Rattle.bands.proofs.rows.band_right.Goals as goal
use Rattle.bands.proofs.rows.band_right.Goals.{then-low-high, else-low-high}

-- the tests, as they are made of what the locals hold
ordered : {l h : ℤ} {t : Bool} → SFits w32 l → SFits w32 h → le_z (held w32 l) (held w32 h) ≡ t → le_z l h ≡ t
ordered f g e = sym (read_both le_z f g) ∙ e

least : {z : ℤ} {t : Bool} → SFits w32 z → le_z (pos 0) (held w32 z) ≡ t → le_z (pos 0) z ≡ t
least f e = sym (ap (le_z (pos 0)) (to_z-of_z f)) ∙ e

pub returns-then-grade-ge0 : goal.returns-then-grade-ge0
returns-then-grade-ge0 c =
    elim c.if-low-high.branch [
      | then-low-high w ↦
          row_right _ _ _ (ordered c.ranges.low c.ranges.high w.if-low-high.true) (least c.ranges.grade (sym w.value-is ∙ c.if-grade-ge0.true)) (search rules)
      | else-low-high w ↦ absurd (true≢false (sym c.if-grade-ge0.true ∙ w.value-is ∙ w.if-low-high.false))
    ]

pub returns-else-grade-ge0 : goal.returns-else-grade-ge0
returns-else-grade-ge0 c =
    c.if-grade-ge0.false
    ∙ elim c.if-low-high.branch [
      | then-low-high w ↦
          grade_negative _ _ _ (ordered c.ranges.low c.ranges.high w.if-low-high.true) (least c.ranges.grade (sym w.value-is ∙ c.if-grade-ge0.false))
      | else-low-high w ↦ low_above_high _ _ _ (ordered c.ranges.low c.ranges.high w.if-low-high.false)
    ]
