-- The walk that looks for unbound variables: the names around a node in a lent list, and one step of the walk, as the code takes
-- it. Assumes nothing.
use Prim.Native.Nat.{ℕ, zero, suc, ◌+◌, ◌-◌, ◌*◌, ◌≤◌, ◌<◌, max}
use mathlib.Core.Path.{◌≡◌, refl, sym, ap, ◌∙◌}
use mathlib.Core.Bool.{Bool, true, false}
use mathlib.Core.List.{List, [], ◌∷◌}
use mathlib.Core.Option.{Option, none, some}
use native.Mathlib.Omega.{arith}
use native.Mathlib.Nat.{max-zero}
use native.Mathlib.Numerals.{add-one}
use lib.ListN.{get_or, length, set, length-set}
use lib.Seq.{get_or-set_same, get_or-set_other}
use lib.Dec.{leb, eqb}
use borrow.Author.Tests.{leb-true, leb-false, eq-eqb, ne_eqb}
use Rattle.lambdamix.specs.Limits.{max_height}
use Rattle.lambdamix.specs.Falling.{below}
use Rattle.lambdamix.specs.Structure.{lowest, lowest_by, member}
use Rattle.lambdamix.proofs.Falling.{below_at, falling_step, below_out}
use Rattle.lambdamix.proofs.Tests.{or_right}
use Rattle.lambdamix.specs.declared.Use.{Use}
use Rattle.lambdamix.specs.declared.Use.TheVariants.{Nothing}
use Rattle.script.specs.Kinds.{is_binder, is_child}
use Rattle.script.specs.declared.Row.{Row}
use Rattle.script.specs.KindRows.{row_at}
use Rattle.script.specs.Words.{word_kind, word_a, word_b, word_c, Columns, columns_in}
use Rattle.walks.specs.Walks.{kept_if, row_children, word_children, gathered, height_at, too_high_at, height_over, unbound_field, unbound_fields}
use Rattle.walks.specs.Walks.{unbound_by, unbound_step}
use Rattle.walks.specs.Walks.{unbound_at, unbound_below, innermost, Kept, Entered, levels_in, input_count_in, Lower, same, node, Scoped}
use Rattle.walks.proofs.Heights.{word_height, height_fields, low_none}

-- kept names are the same list
pub innermost_same : (d : ℕ) (xs ys : List ℕ) → Kept d xs ys → innermost ys d ≡ innermost xs d
unfolding innermost
innermost_same zero xs ys h = refl
innermost_same (suc d) xs ys h =
    rw (h.names d (omega arith), innermost_same d xs ys (record { same = h.same; names = λ k l. h.names k (omega arith) }))

pub kept_all : (d : ℕ) (xs : List ℕ) → Kept d xs xs
kept_all d xs = record { same = refl; names = λ k l. refl }

kept_both : (d : ℕ) {xs ys zs : List ℕ} → Kept d xs ys → Kept d ys zs → Kept d xs zs
kept_both d p q = record { same = q.same ∙ p.same; names = λ k l. q.names k l ∙ p.names k l }

kept_less : (d e : ℕ) {xs ys : List ℕ} → d ≤ e → Kept e xs ys → Kept d xs ys
kept_less d e h p = record { same = p.same; names = λ k l. p.names k (omega arith) }

kept_set : (d : ℕ) (xs : List ℕ) (x : ℕ) → Kept d xs (set xs d x)
kept_set d xs x =
    record { same = length-set xs d x; names = λ k l. get_or-set_other xs d k x 0 (λ e. let z : ⊥ = omega arith in z) }

-- a binder's name is put after the others
innermost_set : (xs : List ℕ) (d x : ℕ) → d < length xs → innermost (set xs d x) (d + 1) ≡ x ∷ innermost xs d
unfolding innermost
innermost_set xs d x h =
    rw (add-one d, get_or-set_same xs d x 0 h, innermost_same d xs (set xs d x) (kept_set d xs x))

-- a field that is a binder, and one that is none
module _ {u : Use} (xs : List ℕ) (f d : ℕ) where
  pub entered_binder : {e r : ℕ} → is_binder u ≡ true → d < length xs → e ≡ d → r ≡ d + 1 → Entered u f d xs (set xs e f) r
  unfolding kept_if
  entered_binder b h e g =
      record { names = rw (b, e, g) (innermost_set xs d f h); kept = rw e (kept_set d xs f); least = omega arith; most = omega arith }

  pub entered_other : is_binder u ≡ false → Entered u f d xs xs d
  unfolding kept_if
  entered_other b = record { names = rw b; kept = kept_all d xs; least = omega arith; most = omega arith }

-- one name more is looked at: it is the one that is sought, or not
module _ (xs : List ℕ) (d x : ℕ) {f g : Bool} (seen : f ≡ member x (innermost xs d)) where
  pub found_here : get_or xs d 0 ≡ x → g ≡ true → g ≡ member x (innermost xs (d + 1))
  unfolding innermost member
  found_here h e = e ∙ rw (add-one d, eq-eqb _ _ h)

  pub found_before : (get_or xs d 0 ≡ x → ⊥) → g ≡ f → g ≡ member x (innermost xs (d + 1))
  unfolding innermost member
  found_before h e = e ∙ seen ∙ rw (add-one d, ne_eqb _ _ h)

-- what is found among some is found among more
pub found_further : (xs : List ℕ) (x d k : ℕ) → member x (innermost xs d) ≡ true → member x (innermost xs (k + d)) ≡ true
unfolding innermost member
found_further xs x d zero h = let e : 0 + d ≡ d = omega arith in rw e h
found_further xs x d (suc k) h =
    let e : suc k + d ≡ suc (k + d) = omega arith in
    rw e (or_right (eqb (get_or xs (k + d) 0) x) (found_further xs x d k h))

-- ---- places and limits in one number

lower_both : {l p q : ℕ} {t u : Option ℕ} → Lower l t p → Lower p u q → Lower l (lowest t u) q
unfolding lowest lowest_by
lower_both (same e) (same f) = same (f ∙ e)
lower_both {l} {q = q} (same e) (node b f) = node {l = l} {r = q} b (omega arith)
lower_both (node a e) (same f) = node a (f ∙ e)
lower_both {l} {q = q} (node {j = i} a e) (node {j = j} b f) = go (leb i j) refl
  where
    go : (b : Bool) → leb i j ≡ b → Lower l (lowest_by b i j) q
    go true h = node {l = l} {r = q} a (omega (arith, leb-true i j h))
    go false h = node {l = l} {r = q} b (omega (arith, leb-false i j h))

lower_falls : {l r : ℕ} {t : Option ℕ} → Lower l t r → r ≤ l
lower_falls (same e) = omega arith
lower_falls (node b e) = omega arith

-- one level less, and none
pub levels_less : (l : ℕ) → 65536 ≤ l → levels_in l ≡ levels_in (l - 65536) + 1
unfolding levels_in
levels_less l h = omega arith

inputs_less : (l : ℕ) → 65536 ≤ l → input_count_in (l - 65536) ≡ input_count_in l
unfolding input_count_in
inputs_less l h = omega arith

no_levels : (l : ℕ) → l < 65536 → levels_in l ≡ 0
unfolding levels_in
no_levels l h = omega arith

-- ---- a child and a field

-- the height is within what is allowed, or not
within_or_over : {A : Type 0} (h k : ℕ) → (h ≤ k → A) → (k < h → A) → A
within_or_over {A} h k f g = go (leb h k) refl
  where
    go : (b : Bool) → leb h k ≡ b → A
    go true e = f (leb-true h k e)
    go false e = g (leb-false h k e)

scoped_falls : {h k d l r : ℕ} {t : Option ℕ} {xs ys : List ℕ} → Scoped h k t d l xs ys r → r ≤ l
scoped_falls {h} {k} p = within_or_over h k (λ e. lower_falls (p.found e)) (λ e. omega (arith, p.high e))

pub scoped_name : {h k d l r : ℕ} {t : Option ℕ} (xs : List ℕ) → h ≡ 0 → Lower l t r → Scoped h k t d l xs xs r
scoped_name xs e p = record { found = λ f. p; high = λ f. absurd (omega (arith, e, f)); kept = kept_all _ xs }

scoped_none : {h k d l : ℕ} (xs : List ℕ) → h ≤ k → Scoped h k none d l xs xs l
scoped_none xs e = record { found = λ f. same refl; high = λ f. absurd (omega (arith, e, f)); kept = kept_all _ xs }

-- the children of a field that is one, and of one that is none
module _ (x : Columns) (i m : ℕ) {b : Bool} where
  pub child_height : b ≡ true → height_over x i (kept_if b m []) ≡ below i 1 (height_at x) m
  unfolding height_over gathered kept_if
  child_height e = rw (e, max-zero (below i 1 (height_at x) m))

  pub no_height : b ≡ false → height_over x i (kept_if b m []) ≡ 0
  unfolding height_over gathered kept_if
  no_height e = rw e

height_some : (ws : List ℕ) (m : ℕ) → 1 ≤ height_at (columns_in ws) m
height_some ws m = omega (arith, word_height ws m refl)

child_some : (ws : List ℕ) (i m : ℕ) → 1 ≤ below i 1 (height_at (columns_in ws)) m
child_some ws i m =
    within_or_over i m (λ e. omega (arith, below_out i 1 (height_at (columns_in ws)) m e))
    (λ e. omega (arith, below_at i 1 (height_at (columns_in ws)) m e, height_some ws m))

module _ (ws : List ℕ) (i m d : ℕ) {l : ℕ} where
  pub scoped_child :
      (k : ℕ) {r : ℕ} {xs ys : List ℕ} → m < i → 65536 ≤ k
      → Scoped (height_at (columns_in ws) m) (levels_in (k - 65536) + 1) (unbound_at (columns_in ws) (input_count_in (k - 65536)) m (innermost xs d)) d l xs ys r
      → Scoped (below i 1 (height_at (columns_in ws)) m) (levels_in k) (unbound_below (columns_in ws) (input_count_in k) i m (innermost xs d)) d l xs ys r
  unfolding unbound_below
  scoped_child k {xs = xs} h e p =
      let n = input_count_in k in
      rw (
        ap (λ (f : List ℕ → Option ℕ). f (innermost xs d)) (below_at i (λ ys. none) (unbound_at (columns_in ws) n) m h),
        below_at i 1 (height_at (columns_in ws)) m h,
        levels_less k e,
      ) (rw (inputs_less k e) at p)

  pub scoped_stray :
      (k n : ℕ) (xs : List ℕ) → i ≤ m → 65536 ≤ k
      → Scoped (below i 1 (height_at (columns_in ws)) m) (levels_in k) (unbound_below (columns_in ws) n i m (innermost xs d)) d l xs xs l
  unfolding unbound_below
  scoped_stray k n xs h e =
      rw (below_out i (λ ys. none) (unbound_at (columns_in ws) n) m h, below_out i 1 (height_at (columns_in ws)) m h)
      (scoped_none xs (omega (arith, levels_less k e)))

  -- a child where no level is allowed
  pub scoped_high :
      (k : ℕ) {t : Option ℕ} (xs : List ℕ) → k < 65536 → Scoped (below i 1 (height_at (columns_in ws)) m) (levels_in k) t d l xs xs 0
  scoped_high k xs e =
      record {
        found = λ f. absurd (omega (arith, f, no_levels k e, child_some ws i m));
        high = λ f. refl;
        kept = kept_all d xs;
      }

-- one after the other, under the same names
scoped_both :
    (f g : List ℕ → Option ℕ) (h j k : ℕ) {d m l p q : ℕ} {xs ys zs : List ℕ} → Scoped h k (f (innermost xs d)) d l xs ys p
    → Scoped j k (g (innermost ys d)) d m ys zs q → m ≡ p
    → Scoped (max h j) k (lowest (f (innermost xs d)) (g (innermost xs d))) d l xs zs q
scoped_both f g h j k {d} {xs = xs} {ys} s t e =
    record {
      found = λ a. lower_both (s.found (omega (arith, a))) (rw (e, innermost_same d xs ys s.kept) at (t.found (omega (arith, a))));
      high = λ a. within_or_over h k (λ b. t.high (omega (arith, a, b))) (λ b. omega (arith, s.high b, e, scoped_falls t));
      kept = kept_both d s.kept t.kept;
    }

-- the three fields, each beside what was found before
pub scoped_fields :
    (x : Columns) (n : ℕ) (self : ℕ → List ℕ → Option ℕ) (i k : ℕ) (row : Row) (a b c : ℕ) {d e g h l p q s : ℕ} {us vs xs ys zs : List ℕ}
    → Entered row.0 a d us vs e
    → Scoped (height_over x i (kept_if (is_child row.0) a [])) k (unbound_field n self i (innermost vs e) row.0 a) e l vs xs p
    → Scoped (height_over x i (kept_if (is_child row.1) b [])) k (unbound_field n self i (innermost xs e) row.1 b) e g xs ys q → g ≡ p
    → Scoped (height_over x i (kept_if (is_child row.2) c [])) k (unbound_field n self i (innermost ys e) row.2 c) e h ys zs s → h ≡ q
    → Scoped (height_over x i (row_children row a b c)) k (unbound_by n self i (innermost us d) row a b c) d l us zs s
unfolding unbound_by unbound_fields
scoped_fields x n self i k row a b c {d} {e} u p q f r g =
    let at : Use → ℕ → List ℕ → Option ℕ = λ v m ns. unbound_field n self i ns v m in
    let z =
    scoped_both (at row.0 a) (λ ns. lowest (at row.1 b ns) (at row.2 c ns)) _ _ k p (scoped_both (at row.1 b) (at row.2 c) _ _ k q r g) f in
    record {
      found = λ h. rw (sym u.names) (z.found (omega (arith, h, height_fields x i row a b c)));
      high = λ h. z.high (omega (arith, h, height_fields x i row a b c));
      kept = kept_both d u.kept (kept_less d e u.least z.kept);
    }

-- ---- a node over its fields, which stand in its word

module _ (ws : List ℕ) (n i : ℕ) {w : ℕ} (e : w ≡ get_or ws i 0) where
  unbound_word :
      (xs : List ℕ)
      → unbound_at (columns_in ws) n i xs
      ≡ unbound_by n (unbound_below (columns_in ws) n i) i xs (row_at (word_kind w)) (word_a w) (word_b w) (word_c w)
  unfolding unbound_at unbound_step unbound_below
  unbound_word xs =
      ap (λ (f : List ℕ → Option ℕ). f xs) (falling_step (λ zs. none) (unbound_step (columns_in ws) n) i) ∙ rw e

  module _ {d l : ℕ} (k : ℕ) where
    -- by the row of its kind
    pub scoped_row :
        {row : Row} {xs ys : List ℕ} {r : ℕ} → row_at (word_kind w) ≡ row → word_children w ≡ row_children row (word_a w) (word_b w) (word_c w)
        → Scoped (height_over (columns_in ws) i (row_children row (word_a w) (word_b w) (word_c w))) k
        (unbound_by n (unbound_below (columns_in ws) n i) i (innermost xs d) row (word_a w) (word_b w) (word_c w)) d l xs ys r
        → Scoped (height_at (columns_in ws) i) (k + 1) (unbound_at (columns_in ws) n i (innermost xs d)) d l xs ys r
    scoped_row {xs = xs} f g p =
        let e : height_at (columns_in ws) i ≡ suc (height_over (columns_in ws) i _) = rw g at (word_height ws i e) in
        rw (unbound_word (innermost xs d), f) (record {
          found = λ h. p.found (omega (arith, h, e));
          high = λ h. p.high (omega (arith, h, e));
          kept = p.kept;
        })

    -- past the table
    pub scoped_past :
        (xs : List ℕ) → row_at (word_kind w) ≡ record { 0 = Nothing; 1 = Nothing; 2 = Nothing } → word_children w ≡ []
        → Scoped (height_at (columns_in ws) i) (k + 1) (unbound_at (columns_in ws) n i (innermost xs d)) d l xs xs l
    unfolding unbound_by unbound_fields unbound_field lowest height_over gathered
    scoped_past xs f g = rw (unbound_word (innermost xs d), f) (scoped_none xs (omega (arith, rw g at (word_height ws i e))))

-- ---- the answer at the root

module _ {h k d r : ℕ} {t : Option ℕ} {xs ys : List ℕ} (p : Scoped h k t d 65535 xs ys r) where
  pub place_none : r ≡ 65535 → (h ≤ k) × (t ≡ none)
  place_none e = within_or_over h k (λ l. (l, go (p.found l) e)) (λ l. absurd (omega (arith, p.high l, e)))
    where
      go : {r : ℕ} {t : Option ℕ} → Lower 65535 t r → r ≡ 65535 → t ≡ none
      go (same e) f = refl
      go (node b e) f = absurd (omega arith)

  pub place_high : r ≡ 0 → k < h
  place_high e = within_or_over h k (λ l. absurd (go (p.found l) e)) (λ l. l)
    where
      go : {r : ℕ} {t : Option ℕ} → Lower 65535 t r → r ≡ 0 → ⊥
      go (same e) f = omega arith
      go (node b e) f = omega arith

  pub place_some : (r ≡ 65535 → ⊥) → (r ≡ 0 → ⊥) → (h ≤ k) × (t ≡ some (r - 1))
  place_some e f = within_or_over h k (λ l. (l, go (p.found l) e)) (λ l. absurd (f (p.high l)))
    where
      go : {r : ℕ} {t : Option ℕ} → Lower 65535 t r → (r ≡ 65535 → ⊥) → t ≡ some (r - 1)
      go (same e) f = absurd (f e)
      go (node b e) f = ap some (omega arith)

-- what the search from the root tells, where as many levels are allowed below it as a tree may have
module _ (ws : List ℕ) (i j : ℕ) {l : ℕ} (e : l ≡ 65536 * (max_height - 1) + j) (b : j < 65536) where
  root_levels : levels_in l + 1 ≡ max_height
  unfolding levels_in max_height
  root_levels = omega (arith, e, b)

  root_inputs : input_count_in l ≡ j
  unfolding input_count_in max_height
  root_inputs = omega (arith, e, b)

  module _
      {r : ℕ}
      {xs ys : List ℕ}
      (p : Scoped (height_at (columns_in ws) i) (levels_in l + 1) (unbound_at (columns_in ws) (input_count_in l) i []) 0 65535 xs ys r)
    where
      pub root_none : r ≡ 65535 → (too_high_at (columns_in ws) i ≡ none) × (unbound_at (columns_in ws) j i [] ≡ none)
      root_none f =
          let q = place_none p f in
          (low_none (columns_in ws) i (omega (arith, q.0, root_levels)), rw root_inputs at q.1)

      pub root_high : r ≡ 0 → max_height < height_at (columns_in ws) i
      root_high f = omega (arith, place_high p f, root_levels)

      pub root_some : (r ≡ 65535 → ⊥) → (r ≡ 0 → ⊥) → (too_high_at (columns_in ws) i ≡ none) × (unbound_at (columns_in ws) j i [] ≡ some (r - 1))
      root_some f g =
          let q = place_some p f g in
          (low_none (columns_in ws) i (omega (arith, q.0, root_levels)), rw root_inputs at q.1)
