-- Rows are accepted exactly if every 32-bit reading falls in exactly one, in rising order, and each row is right by itself. The rows are spans of places
-- (Spans.antt). Assumes nothing.
use Prim.Native.Nat.{ℕ, zero, suc, ◌+◌, ◌-◌, ◌≤◌, ◌<◌}
use mathlib.Core.Path.{◌≡◌, refl, sym, ap, subst, ◌∙◌}
use mathlib.Core.Bool.{true, false}
use mathlib.Core.List.{List}
use mathlib.Core.Option.{none}
use mathlib.Core.Logic.{◌↔◌, ⊎_elim}
use native.Mathlib.Omega.{arith}
use lib.IntN.{ℤ, pos, negsuc, suc_ℤ}
use lib.ListN.{length}
use lib.Signed.{lt_z, le_z, le_z_yes}
use lib.Dec.{T, leb, ltb}
use borrow.Author.Tests.{leb-true, le-leb, ltb-true, ltb-false, lt-ltb, le-ltb}
use Rattle.lambdamix.specs.Arithmetic.{lowest, highest, Fits32}
use Rattle.lambdamix.specs.Refusal.{or_else, refused_unless, refused_at}
use Rattle.lambdamix.proofs.Tests.{holds_or_fails, and_both, and_intro}
use Rattle.script.proofs.RefusalLaws.{neither, not_refused, no_node, passes, all_pass}
use Rattle.bands.specs.Rows.{Band, band_at, max_rows, max_grade, count_right, band_right, above_before, left_at, start_by, start_at, joins_before, rows_refusal}
use Rattle.bands.specs.Rows.{FallsIn, FallsInOne, GoodBand, GoodRows, BandFits}
use Rattle.bands.proofs.Order.{Near, place, near, next_near, next_place, le_place, lt_place, T_true, le_places, places_le, lt_places, places_lt}
use Rattle.bands.proofs.Spans.{In, before, one_alone, each_found, apart_then, begins_then, joined_then, ends_then}

-- ---- the range as places

lowest_place : place lowest ≡ 1
unfolding place
lowest_place = refl

highest_place : place highest ≡ 4294967296
unfolding place
highest_place = refl

fits_places : (z : ℤ) → Fits32 z → (1 ≤ place z) × (place z ≤ 4294967296)
unfolding place
fits_places (pos n) h = (omega arith, omega arith)
fits_places (negsuc n) h = (omega arith, omega arith)

-- each place of the range is that of a reading
reading_at : (p : ℕ) → 1 ≤ p → p ≤ 4294967296 → (z : ℤ) × Fits32 z × (place z ≡ p)
unfolding place
reading_at p h l =
    ⊎_elim (λ t. let k = ltb-true p 2147483649 t in (negsuc (2147483648 - p), omega (arith, k), omega (arith, k)))
    (λ t. let k = ltb-false p 2147483649 t in (pos (p - 2147483649), omega (arith, k), omega (arith, k))) (holds_or_fails (ltb p 2147483649))

module _ (rows : List Band) (fit : (k : ℕ) → k < length rows → BandFits (band_at rows k)) where
  abbrev first : ℕ → ℕ
  first k = place (band_at rows k).low

  abbrev last : ℕ → ℕ
  last k = place (band_at rows k).high

  abbrev Lies : ℕ → ℕ → Type 0
  Lies = In first last (length rows)

  low_near : (k : ℕ) → k < length rows → Near (band_at rows k).low
  low_near k l = near (band_at rows k).low (fit k l).low

  high_near : (k : ℕ) → k < length rows → Near (band_at rows k).high
  high_near k l = near (band_at rows k).high (fit k l).high

  falls_lies : (z : ℤ) → Fits32 z → (k : ℕ) → FallsIn z rows k → Lies (place z) k
  falls_lies z f k h =
      record {
        row = h.row;
        from = le_places (band_at rows k).low z (low_near k h.row) (near z f) h.from;
        to = le_places z (band_at rows k).high (near z f) (high_near k h.row) h.to;
      }

  lies_falls : (z : ℤ) → Fits32 z → (k : ℕ) → Lies (place z) k → FallsIn z rows k
  lies_falls z f k h =
      record {
        row = h.row;
        from = places_le (band_at rows k).low z (low_near k h.row) (near z f) h.from;
        to = places_le z (band_at rows k).high (near z f) (high_near k h.row) h.to;
      }

  ordered_by : ((k : ℕ) → k < length rows → GoodBand (band_at rows k)) → (k : ℕ) → k < length rows → first k ≤ last k
  ordered_by g k l = le_places (band_at rows k).low (band_at rows k).high (low_near k l) (high_near k l) (g k l).ordered

  -- ---- accepted rows are good

  right_good : (r : Band) → band_right r ≡ true → GoodBand r
  unfolding band_right
  right_good r e =
      let (p, q) = and_both (le_z r.low r.high) _ e in
      let (s, t) = and_both (le_z (pos 0) r.grade) (le_z r.grade max_grade) q in
      record { ordered = le_z_yes (subst T (sym p) tt); least = le_z_yes (subst T (sym s) tt); most = le_z_yes (subst T (sym t) tt) }

  apart_by : ((k : ℕ) → k < length rows → above_before rows k ≡ true) → (k : ℕ) → suc k < length rows → last k < first (suc k)
  unfolding above_before
  apart_by h k l =
      let test = lt_place (band_at rows k).high (band_at rows (suc k)).low (high_near k (omega arith)) (low_near (suc k) l) in
      ltb-true (last k) (first (suc k)) (sym test ∙ h (suc k) l)

  begins_by : 1 ≤ length rows → joins_before rows 0 ≡ true → first 0 ≤ 1
  unfolding joins_before start_at start_by left_at
  begins_by a h =
      let e = rw (lt-ltb 0 (length rows) a) at h in
      leb-true (first 0) 1 (sym (le_place (band_at rows 0).low lowest (low_near 0 a) (near lowest (omega arith)) ∙ ap (leb (first 0)) lowest_place) ∙ e)

  joined_by : (k : ℕ) → suc k < length rows → joins_before rows (suc k) ≡ true → first (suc k) ≤ last k + 1
  unfolding joins_before start_at start_by left_at
  joined_by k l h =
      let e = rw (lt-ltb (suc k) (length rows) l) at h in
      let o : k < length rows = omega arith in
      let n = next_near (band_at rows k).high (fit k o).high in
      let test = le_place (band_at rows (suc k)).low (suc_ℤ (band_at rows k).high) (low_near (suc k) l) n in
      rw (← next_place (band_at rows k).high (high_near k o)) (leb-true (first (suc k)) (place (suc_ℤ (band_at rows k).high)) (sym test ∙ e))

  ends_by : (k : ℕ) → suc k ≡ length rows → joins_before rows (suc k) ≡ true → 4294967296 ≤ last k
  unfolding joins_before start_at start_by left_at
  ends_by k e h =
      let o : k < length rows = omega arith in
      let t = rw (le-ltb (suc k) (length rows) (omega arith)) at h in
      let n = next_near (band_at rows k).high (fit k o).high in
      let test = le_place (suc_ℤ highest) (suc_ℤ (band_at rows k).high) (next_near highest (omega arith)) n in
      let p = leb-true (place (suc_ℤ highest)) (place (suc_ℤ (band_at rows k).high)) (sym test ∙ t) in
      let q = next_place (band_at rows k).high (high_near k o) in
      let r = next_place highest (near highest (omega arith)) in
      omega (arith, p, q, r, highest_place)

  -- what it is that nothing is refused
  record Passed : Type 0 where
    any : 1 ≤ length rows
    few : length rows ≤ max_rows
    right : (k : ℕ) → k < length rows → band_right (band_at rows k) ≡ true
    above : (k : ℕ) → k < length rows → above_before rows k ≡ true
    joins : (k : ℕ) → k < suc (length rows) → joins_before rows k ≡ true

  passed_by : rows_refusal rows ≡ none → Passed
  unfolding rows_refusal count_right
  passed_by e =
      let m = length rows in
      let (a, b) = neither _ _ e in
      let (w, c) = neither _ _ b in
      let (o, g) = neither _ _ c in
      let both = and_both (leb 1 m) (leb m max_rows) (not_refused _ 30 0 a) in
      record {
        any = leb-true 1 m both.0;
        few = leb-true m max_rows both.1;
        right = passes (λ k. band_right (band_at rows k)) m (no_node 30 _ w);
        above = passes (above_before rows) m (no_node 31 _ o);
        joins = passes (joins_before rows) (suc m) (no_node 32 _ g);
      }

  passed_none : Passed → rows_refusal rows ≡ none
  unfolding rows_refusal count_right refused_unless or_else refused_at
  passed_none p =
      let m = length rows in
      rw (
        le-leb 1 m p.any,
        le-leb m max_rows p.few,
        all_pass (λ k. band_right (band_at rows k)) m p.right,
        all_pass (above_before rows) m p.above,
        all_pass (joins_before rows) (suc m) p.joins,
      )

  passed_good : Passed → GoodRows rows
  passed_good p =
      let good : (k : ℕ) → k < length rows → GoodBand (band_at rows k) = λ k l. right_good (band_at rows k) (p.right k l) in
      let ordered = ordered_by good in
      let apart = apart_by p.above in
      record {
        any = p.any;
        few = p.few;
        each = good;
        rising =
            λ k l.
            let o : k < length rows = omega arith in
            places_lt (band_at rows k).low (band_at rows (suc k)).low (low_near k o) (low_near (suc k) l) (omega (arith, ordered k o, apart k l));
        covered = λ z f. one z f ordered apart;
      }
    where
      one :
          (z : ℤ) → Fits32 z → ((k : ℕ) → k < length rows → first k ≤ last k) → ((k : ℕ) → suc k < length rows → last k < first (suc k)) →
          FallsInOne z rows
      one z f ordered apart =
          let (a, b) = fits_places z f in
          let (i, h) =
          each_found first last (length rows) 1 4294967296 (begins_by p.any (p.joins 0 (omega arith)))
          (λ k l. joined_by k l (p.joins (suc k) (omega arith))) (λ k e. ends_by k e (p.joins (suc k) (omega arith))) p.any (place z) a b in
          record {
            index = i;
            falls = lies_falls z f i h;
            only = λ j g. one_alone first last (length rows) ordered apart (falls_lies z f j g) h;
          }

  -- ---- good rows are accepted

  good_right : (r : Band) → GoodBand r → band_right r ≡ true
  unfolding band_right
  good_right r g =
      and_intro (T_true (le_z r.low r.high) g.ordered.le)
      (and_intro (T_true (le_z (pos 0) r.grade) g.least.le) (T_true (le_z r.grade max_grade) g.most.le))

  module _ (g : GoodRows rows) where
    found : (p : ℕ) → 1 ≤ p → p ≤ 4294967296 → (i : ℕ) × Lies p i
    found p a b =
        let (z, f, e) = reading_at p a b in
        let o = g.covered z f in
        (o.index, subst (λ (p : ℕ). Lies p o.index) e (falls_lies z f o.index o.falls))

    alone : (p i j : ℕ) → 1 ≤ p → p ≤ 4294967296 → Lies p i → Lies p j → i ≡ j
    alone p i j a b h k =
        let (z, f, e) = reading_at p a b in
        let o = g.covered z f in
        o.only i (lies_falls z f i (subst (λ (p : ℕ). Lies p i) (sym e) h)) ∙ sym (o.only j (lies_falls z f j (subst (λ (p : ℕ). Lies p j) (sym e) k)))

    rises : (k : ℕ) → suc k < length rows → first k < first (suc k)
    rises k l = lt_places (band_at rows k).low (band_at rows (suc k)).low (low_near k (omega arith)) (low_near (suc k) l) (g.rising k l)

    at_least : (k : ℕ) → k < length rows → 1 ≤ first k
    at_least k l = (fits_places (band_at rows k).low (fit k l).low).0

    at_most : (k : ℕ) → k < length rows → first k ≤ 4294967296
    at_most k l = (fits_places (band_at rows k).low (fit k l).low).1

    good_above : (k : ℕ) → k < length rows → above_before rows k ≡ true
    unfolding above_before
    good_above zero l = refl
    good_above (suc k) l =
        lt_place (band_at rows k).high (band_at rows (suc k)).low (high_near k (omega arith)) (low_near (suc k) l)
        ∙ lt-ltb (last k) (first (suc k)) (apart_then first last (length rows) (ordered_by g.each) rises 1 4294967296 at_least at_most found alone k l)

    good_joins : (k : ℕ) → k < suc (length rows) → joins_before rows k ≡ true
    unfolding joins_before start_at start_by left_at
    good_joins zero l =
        let a = g.any in
        let h = begins_then first last (length rows) (ordered_by g.each) rises 1 4294967296 at_least at_most found alone a (omega arith) in
        rw (lt-ltb 0 (length rows) a)
        (le_place (band_at rows 0).low lowest (low_near 0 a) (near lowest (omega arith)) ∙ le-leb (first 0) (place lowest) (rw lowest_place h))
    good_joins (suc k) l =
        ⊎_elim (λ t. inner (ltb-true (suc k) (length rows) t)) (λ t. outer (ltb-false (suc k) (length rows) t))
        (holds_or_fails (ltb (suc k) (length rows)))
      where
        o : k < length rows
        o = omega arith

        n : Near (suc_ℤ (band_at rows k).high)
        n = next_near (band_at rows k).high (fit k o).high

        q : place (suc_ℤ (band_at rows k).high) ≡ last k + 1
        q = next_place (band_at rows k).high (high_near k o)

        inner : suc k < length rows → le_z (start_by (ltb (suc k) (length rows)) (band_at rows (suc k)).low) (suc_ℤ (band_at rows k).high) ≡ true
        inner d =
            let h = joined_then first last (length rows) (ordered_by g.each) rises 1 4294967296 at_least at_most found alone k d in
            rw (lt-ltb (suc k) (length rows) d)
            (le_place (band_at rows (suc k)).low (suc_ℤ (band_at rows k).high) (low_near (suc k) d) n
            ∙ le-leb (first (suc k)) (place (suc_ℤ (band_at rows k).high)) (rw q h))

        outer : length rows ≤ suc k → le_z (start_by (ltb (suc k) (length rows)) (band_at rows (suc k)).low) (suc_ℤ (band_at rows k).high) ≡ true
        outer d =
            let e : suc k ≡ length rows = omega arith in
            let h = ends_then first last (length rows) (ordered_by g.each) rises 1 4294967296 at_least at_most found alone (omega arith) k e in
            let r = next_place highest (near highest (omega arith)) in
            rw (le-ltb (suc k) (length rows) d)
            (le_place (suc_ℤ highest) (suc_ℤ (band_at rows k).high) (next_near highest (omega arith)) n
            ∙ le-leb (place (suc_ℤ highest)) (place (suc_ℤ (band_at rows k).high)) (omega (arith, q, r, h, highest_place)))

  -- Theorem: of rows of 32-bit numbers none of 30, 31 and 32 is told exactly if they number 1 to 32, each has low not above high and a grade in 0 to 255, and
  -- every 32-bit reading falls in exactly one, in rising order.
  pub rows_accepted : (rows_refusal rows ≡ none) ↔ GoodRows rows
  rows_accepted = (
    λ e. passed_good (passed_by e),
    λ g.
        passed_none (record {
          any = g.any;
          few = g.few;
          right = λ k l. good_right (band_at rows k) (g.each k l);
          above = good_above g;
          joins = good_joins g;
        }),
  )

  -- ---- how a reading of a row stands to the lows

  module _ (e : rows_refusal rows ≡ none) {z : ℤ} (f : Fits32 z) {k : ℕ} (h : FallsIn z rows k) where
    abbrev passed : Passed
    passed = passed_by e

    abbrev ordered : (k : ℕ) → k < length rows → first k ≤ last k
    ordered = ordered_by (λ k l. right_good (band_at rows k) (passed.right k l))

    -- it is below the next row's,
    pub below_next : suc k < length rows → lt_z z (band_at rows (suc k)).low ≡ true
    below_next l =
        lt_place z (band_at rows (suc k)).low (near z f) (low_near (suc k) l)
        ∙ lt-ltb (place z) (first (suc k)) (omega (arith, (falls_lies z f k h).to, apart_by passed.above k l))

    -- and not below any before
    pub not_below : (j : ℕ) → j ≤ k → lt_z z (band_at rows j).low ≡ false
    not_below j l =
        lt_place z (band_at rows j).low (near z f) (low_near j (omega (arith, h.row)))
        ∙ le-ltb (place z) (first j) (⊎_elim (λ t. earlier (ltb-true j k t)) (λ t. same (ltb-false j k t)) (holds_or_fails (ltb j k)))
      where
        earlier : j < k → first j ≤ place z
        earlier d =
            omega (
              arith,
              before first last (length rows) ordered (apart_by passed.above) j k d h.row,
              ordered j (omega (arith, h.row)),
              (falls_lies z f k h).from,
            )

        same : k ≤ j → first j ≤ place z
        same d = let q : j ≡ k = omega arith in rw q (falls_lies z f k h).from
