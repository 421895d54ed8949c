-- The walk of heights, as the code takes it: a height within the limit or the lowest node that is too high, in one number.
-- Assumes nothing.
use Prim.Native.Nat.{ℕ, zero, suc, ◌+◌, ◌-◌, ◌≤◌, ◌<◌, min, max}
use mathlib.Core.Path.{◌≡◌, refl, sym, ap, ◌∙◌}
use mathlib.Core.Bool.{Bool, true, false}
use mathlib.Core.List.{List, [], ◌∷◌}
use mathlib.Core.Option.{Option, none, some}
use native.Mathlib.Omega.{arith}
use native.Mathlib.Nat.{max-zero}
use native.Mathlib.Numerals.{add-one}
use lib.ListN.{get_or}
use lib.Dec.{leb, ltb}
use borrow.Author.Tests.{le-leb, lt-leb, leb-true, ltb-true, ltb-false}
use Rattle.lambdamix.specs.Limits.{max_height}
use Rattle.lambdamix.specs.Falling.{below}
use Rattle.lambdamix.specs.Refusal.{first_by}
use Rattle.lambdamix.specs.Structure.{lowest, lowest_by}
use Rattle.lambdamix.proofs.Falling.{below_at, falling_step, below_out}
use Rattle.script.specs.Kinds.{is_child}
use Rattle.script.specs.declared.Row.{Row}
use Rattle.script.specs.Words.{Columns, columns_in}
use Rattle.walks.specs.Walks.{kept_if, row_children, word_children, children_at, gathered, height_step, height_at, too_high_step, too_high_at, height_over, Height}
use Rattle.walks.specs.Walks.{within_limit, over_limit, HeightJoin, HeightNode, HeightOver}

pub lowest_none : (r : Option ℕ) → lowest r none ≡ r
unfolding lowest
lowest_none none = refl
lowest_none (some i) = refl

pub lowest_first : (i j : ℕ) → i ≤ j → lowest (some i) (some j) ≡ some i
unfolding lowest lowest_by
lowest_first i j h = rw (le-leb i j h)

pub lowest_second : (i j : ℕ) → j ≤ i → lowest (some i) (some j) ≡ some j
unfolding lowest lowest_by
lowest_second i j h = go (leb i j) refl
  where
    go : (b : Bool) → leb i j ≡ b → lowest_by b i j ≡ some j
    go true e = ap some (omega (arith, leb-true i j e))
    go false e = refl

-- a field that may be a child, before others
gathered_kept :
    {A : Type 0} (join : A → A → A) (d : A) (self : ℕ → A) → ((y : A) → join d y ≡ y) → ((y : A) → join y d ≡ y)
    → (b : Bool) (m : ℕ) (ms : List ℕ)
    → gathered join d self (kept_if b m ms) ≡ join (gathered join d self (kept_if b m [])) (gathered join d self ms)
unfolding gathered kept_if
gathered_kept join d self l r true m ms = rw (r (self m))
gathered_kept join d self l r false m ms = sym (l _)

-- ---- a node over its children, which stand in its word

height_at_lem : (x : Columns) (i : ℕ) → height_at x i ≡ suc (height_over x i (children_at x i))
unfolding height_at height_step height_over
height_at_lem x i = falling_step 1 (height_step x) i

module _ (ws : List ℕ) (i : ℕ) {w : ℕ} (e : w ≡ get_or ws i 0) where
  pub word_children_lem : children_at (columns_in ws) i ≡ word_children w
  unfolding children_at word_children
  word_children_lem = rw e

  pub word_height : height_at (columns_in ws) i ≡ suc (height_over (columns_in ws) i (word_children w))
  word_height = height_at_lem (columns_in ws) i ∙ ap (λ (ms : List ℕ). suc (height_over (columns_in ws) i ms)) word_children_lem

  word_too_high :
      too_high_at (columns_in ws) i
      ≡ lowest (first_by (leb (height_at (columns_in ws) i) max_height) i none)
      (gathered lowest none (below i none (too_high_at (columns_in ws))) (word_children w))
  unfolding too_high_at too_high_step
  word_too_high =
      falling_step none (too_high_step (columns_in ws)) i
      ∙ ap (λ (ms : List ℕ). lowest (first_by (leb (height_at (columns_in ws) i) max_height) i none)
      (gathered lowest none (below i none (too_high_at (columns_in ws))) ms)) word_children_lem

  pub height_node :
      {p r : ℕ} → HeightOver (columns_in ws) i (word_children w) p → HeightNode i p r
      → Height r (height_at (columns_in ws) i) (too_high_at (columns_in ws) i)
  height_node t n = rw (word_too_high, word_height) (n.over _ _ t)

-- ---- the children, one after the other

module _ (x : Columns) (i : ℕ) where
  -- a child below its parent, and any other number
  pub height_child :
      {m r : ℕ} → m < i → Height r (height_at x m) (too_high_at x m) → Height r (below i 1 (height_at x) m) (below i none (too_high_at x) m)
  height_child {m} h t = rw (below_at i 1 (height_at x) m h, below_at i none (too_high_at x) m h) t

  pub height_stray : {m : ℕ} → i ≤ m → Height 1 (below i 1 (height_at x) m) (below i none (too_high_at x) m)
  unfolding max_height
  height_stray {m} h = rw (below_out i 1 (height_at x) m h, below_out i none (too_high_at x) m h) (within_limit {h = 1} (omega arith))

  pub over_none : {ms : List ℕ} → ms ≡ [] → HeightOver x i ms 0
  unfolding height_over gathered max_height
  over_none e = rw e (within_limit {h = 0} (omega arith))

  -- a field that is a child, and one that is none
  pub over_child :
      (m : ℕ) {b : Bool} {r : ℕ} → b ≡ true → Height r (below i 1 (height_at x) m) (below i none (too_high_at x) m)
      → HeightOver x i (kept_if b m []) r
  unfolding height_over gathered kept_if
  over_child m e t = rw (e, max-zero (below i 1 (height_at x) m), lowest_none (below i none (too_high_at x) m)) t

  pub over_other : (m : ℕ) {b : Bool} → b ≡ false → HeightOver x i (kept_if b m []) 0
  unfolding kept_if
  over_other m e = rw e (over_none refl)

  over_kept :
      (b : Bool) (m : ℕ) (ms : List ℕ) {p q r : ℕ} → HeightOver x i (kept_if b m []) p → HeightOver x i ms q → HeightJoin p q r
      → HeightOver x i (kept_if b m ms) r
  unfolding height_over lowest
  over_kept b m ms t u j =
      rw (gathered_kept max 0 _ (λ y. omega arith) max-zero b m ms, gathered_kept lowest none _ (λ y. refl) lowest_none b m ms)
      (j.joined _ _ _ _ t u)

  module _ (row : Row) (a b c : ℕ) where
    -- the three fields
    pub over_fields :
        {p q r s t : ℕ} → HeightOver x i (kept_if (is_child row.0) a []) p → HeightOver x i (kept_if (is_child row.1) b []) q
        → HeightOver x i (kept_if (is_child row.2) c []) r → HeightJoin q r s → HeightJoin p s t → HeightOver x i (row_children row a b c) t
    unfolding row_children
    over_fields t u v j k = over_kept _ a _ t (over_kept _ b _ u v j) k

    pub height_fields :
        height_over x i (row_children row a b c)
        ≡ max (height_over x i (kept_if (is_child row.0) a []))
        (max (height_over x i (kept_if (is_child row.1) b [])) (height_over x i (kept_if (is_child row.2) c [])))
    unfolding row_children height_over
    height_fields =
        gathered_kept max 0 _ (λ y. omega arith) max-zero _ a _
        ∙ ap (max _) (gathered_kept max 0 _ (λ y. omega arith) max-zero _ b _)

-- ---- two answers in one

-- a height and what is no less
after_height : {p q h g : ℕ} {t u : Option ℕ} → p ≤ q → p ≤ max_height → Height p h t → Height q g u → Height q (max h g) (lowest t u)
unfolding lowest max_height
after_height {h = h} {g = g} l k (within_limit a) (within_limit b) = let e : max h g ≡ g = omega arith in rw e (within_limit b)
after_height {h = h} {g = g} l k (within_limit a) (over_limit e b c) = over_limit {h = max h g} e (omega arith) c
after_height l k (over_limit e a c) t = absurd (omega arith)

before_height : {p q h g : ℕ} {t u : Option ℕ} → q ≤ p → q ≤ max_height → Height p h t → Height q g u → Height p (max h g) (lowest t u)
unfolding lowest max_height
before_height {h = h} {g = g} l k (within_limit a) (within_limit b) = let e : max h g ≡ h = omega arith in rw e (within_limit a)
before_height {h = h} {g = g} l k (over_limit e a c) (within_limit b) = over_limit {h = max h g} e (omega arith) c
before_height l k t (over_limit e b c) = absurd (omega arith)

-- two places
first_place : {p q h g : ℕ} {t u : Option ℕ} → p < q → max_height < p → Height p h t → Height q g u → Height p (max h g) (lowest t u)
unfolding max_height
first_place l k (within_limit a) t = absurd (omega arith)
first_place l k (over_limit e a c) (within_limit b) = absurd (omega arith)
first_place {h = h} {g = g} l k (over_limit {j = i} e a c) (over_limit {j = j} f b d) =
    rw (lowest_first i j (omega arith)) (over_limit {h = max h g} e (omega arith) c)

second_place : {p q h g : ℕ} {t u : Option ℕ} → q ≤ p → max_height < q → Height p h t → Height q g u → Height q (max h g) (lowest t u)
unfolding max_height
second_place l k t (within_limit b) = absurd (omega arith)
second_place l k (within_limit a) (over_limit f b d) = absurd (omega arith)
second_place {h = h} {g = g} l k (over_limit {j = i} e a c) (over_limit {j = j} f b d) =
    rw (lowest_second i j (omega arith)) (over_limit {h = max h g} f (omega arith) d)

module _ {p q : ℕ} where
  pub join_second : p < q → p ≤ max_height → HeightJoin p q q
  join_second l k = record { joined = λ h g t u. after_height (omega arith) k }

  pub join_first : q ≤ p → q ≤ max_height → HeightJoin p q p
  join_first l k = record { joined = λ h g t u. before_height l k }

  pub join_places_first : p < q → max_height < p → HeightJoin p q p
  join_places_first l k = record { joined = λ h g t u. first_place l k }

  pub join_places_second : q ≤ p → max_height < q → HeightJoin p q q
  join_places_second l k = record { joined = λ h g t u. second_place l k }

  -- the higher number where one is a height, else the lower
  pub join_heights : {r : ℕ} → r ≡ max p q → min p q ≤ max_height → HeightJoin p q r
  join_heights {r} e k = by (ltb p q) refl
    where
      by : (b : Bool) → ltb p q ≡ b → HeightJoin p q r
      by true f = let l = ltb-true p q f in let m : r ≡ q = omega arith in rw m (join_second l (omega arith))
      by false f = let l = ltb-false p q f in let m : r ≡ p = omega arith in rw m (join_first l (omega arith))

  pub join_places : {r : ℕ} → r ≡ min p q → max_height < r → HeightJoin p q r
  join_places {r} e k = by (ltb p q) refl
    where
      by : (b : Bool) → ltb p q ≡ b → HeightJoin p q r
      by true f = let l = ltb-true p q f in let m : r ≡ p = omega arith in rw m (join_places_first l (omega arith))
      by false f = let l = ltb-false p q f in let m : r ≡ q = omega arith in rw m (join_places_second l (omega arith))

-- ---- a node over the answer of its children

grown :
    (i : ℕ) {p h : ℕ} {t : Option ℕ} → p < max_height → Height p h t → Height (p + 1) (suc h) (lowest (first_by (leb (suc h) max_height) i none) t)
unfolding max_height first_by lowest
grown i {h = h} l (within_limit a) = rw (le-leb (suc h) max_height (omega arith), add-one h) (within_limit {h = suc h} (omega arith))
grown i l (over_limit e a c) = absurd (omega arith)

-- the first that is too high
crossed :
    (i : ℕ) {p r h : ℕ} {t : Option ℕ} → max_height ≤ p → p ≤ max_height → r ≡ max_height + 1 + i → i < 65536 → Height p h t
    → Height r (suc h) (lowest (first_by (leb (suc h) max_height) i none) t)
unfolding max_height first_by lowest
crossed i {h = h} l k e b (within_limit a) = rw (lt-leb (suc h) max_height (omega arith)) (over_limit {h = suc h} e (omega arith) b)
crossed i l k e b (over_limit f a c) = absurd (omega arith)

-- a place below that is lower, and one that is not
passed_on :
    (i : ℕ) {p h : ℕ} {t : Option ℕ} → max_height < p → p < max_height + 1 + i → Height p h t
    → Height p (suc h) (lowest (first_by (leb (suc h) max_height) i none) t)
unfolding max_height first_by
passed_on i l k (within_limit a) = absurd (omega arith)
passed_on i {h = h} l k (over_limit {j = j} f a c) =
    rw (lt-leb (suc h) max_height (omega arith), lowest_second i j (omega arith)) (over_limit {h = suc h} f (omega arith) c)

kept_own :
    (i : ℕ) {p r h : ℕ} {t : Option ℕ} → max_height < p → max_height + 1 + i ≤ p → r ≡ max_height + 1 + i → i < 65536 → Height p h t
    → Height r (suc h) (lowest (first_by (leb (suc h) max_height) i none) t)
unfolding max_height first_by
kept_own i l k e b (within_limit a) = absurd (omega arith)
kept_own i {h = h} l k e b (over_limit {j = j} f a c) =
    rw (lt-leb (suc h) max_height (omega arith), lowest_first i j (omega arith)) (over_limit {h = suc h} e (omega arith) b)

module _ {i p : ℕ} where
  pub node_low : p < max_height → HeightNode i p (p + 1)
  node_low l = record { over = λ h t. grown i l }

  pub node_crosses : max_height ≤ p → p ≤ max_height → i < 65536 → HeightNode i p (max_height + 1 + i)
  node_crosses l k b = record { over = λ h t. crossed i l k refl b }

  pub node_passes_on : max_height < p → p < max_height + 1 + i → HeightNode i p p
  node_passes_on l k = record { over = λ h t. passed_on i l k }

  pub node_keeps_own : max_height < p → max_height + 1 + i ≤ p → i < 65536 → HeightNode i p (max_height + 1 + i)
  node_keeps_own l k b = record { over = λ h t. kept_own i l k refl b }

-- ---- the answer at the root

pub height_low : {r h : ℕ} {t : Option ℕ} → Height r h t → r ≤ max_height → (h ≤ max_height) × (t ≡ none)
unfolding max_height
height_low (within_limit a) l = (a, refl)
height_low (over_limit e a c) l = absurd (omega arith)

pub height_high : {r h : ℕ} {t : Option ℕ} → Height r h t → max_height < r → t ≡ some (r - (max_height + 1))
unfolding max_height
height_high (within_limit a) l = absurd (omega arith)
height_high (over_limit e a c) l = ap some (omega arith)

-- a height that is too high is told by a place
pub height_above : {r h : ℕ} {t : Option ℕ} → Height r h t → max_height < h → max_height < r
unfolding max_height
height_above (within_limit a) l = absurd (omega arith)
height_above (over_limit e a c) l = omega arith

-- ---- where no height is above the limit, no node is too high

low_gathered :
    (x : Columns) (i : ℕ) (ms : List ℕ) → ((m : ℕ) → m < i → height_at x m ≤ max_height → too_high_at x m ≡ none)
    → height_over x i ms ≤ max_height → gathered lowest none (below i none (too_high_at x)) ms ≡ none
unfolding height_over gathered lowest
low_gathered x i [] f h = refl
low_gathered x i (m ∷ ms) f h = rw (go (ltb m i) refl, low_gathered x i ms f (omega arith))
  where
    go : (b : Bool) → ltb m i ≡ b → below i none (too_high_at x) m ≡ none
    go true e =
        let l = ltb-true m i e in
        below_at i none (too_high_at x) m l ∙ f m l (omega (arith, h, below_at i 1 (height_at x) m l))
    go false e = below_out i none (too_high_at x) m (ltb-false m i e)

low_below : (x : Columns) (n i : ℕ) → i < n → height_at x i ≤ max_height → too_high_at x i ≡ none
unfolding too_high_at too_high_step first_by lowest
low_below x zero i l h = absurd (omega arith)
low_below x (suc n) i l h =
    falling_step none (too_high_step x) i
    ∙ rw (le-leb (height_at x i) max_height h)
    (low_gathered x i (children_at x i) (λ m k. low_below x n m (omega arith)) (omega (arith, h, height_at_lem x i)))

pub low_none : (x : Columns) (i : ℕ) → height_at x i ≤ max_height → too_high_at x i ≡ none
low_none x i h = low_below x (suc i) i (omega arith) h
