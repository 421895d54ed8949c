-- Counting the uses of nodes up to two (refusal 6): counts in a lent list, and the uses in a script's list of nodes.
-- Assumes nothing.
use Prim.Native.Nat.{ℕ, ◌+◌, ◌≤◌, ◌<◌, min}
use mathlib.Core.Path.{◌≡◌, refl, sym, subst, ◌∙◌}
use mathlib.Core.Bool.{Bool, true, false}
use mathlib.Core.List.{List, [], ◌∷◌}
use native.Mathlib.Omega.{arith}
use native.Mathlib.Numerals.{add-one}
use lib.ListN.{get_or, length, set, replicate, length-set, length-replicate, get_or-replicate}
use lib.Seq.{get_or-set_same, get_or-set_other}
use lib.Dec.{eqb}
use borrow.Author.Tests.{eqb-true, eqb-false, eq-eqb, ne_eqb}
use Rattle.lambdamix.specs.Structure.{one_if, occurrences}
use Rattle.script.specs.Kinds.{is_child}
use Rattle.script.specs.declared.Row.{Row}
use Rattle.script.specs.Words.{columns_in}
use Rattle.walks.specs.Walks.{kept_if, row_children, word_children, uses_below, Counted}
use Rattle.walks.proofs.Heights.{word_children_lem}

-- no node is counted
pub counted_none : (xs : List ℕ) → Counted (λ j. 0) xs xs
counted_none xs = record { same = refl; each = λ j h. omega arith }

-- some uses, then others
pub counted_both : {f g : ℕ → ℕ} {xs ys zs : List ℕ} → Counted f xs ys → Counted g ys zs → Counted (λ j. f j + g j) xs zs
counted_both p q =
    record { same = q.same ∙ p.same; each = λ j l. omega (arith, p.each j l, q.each j (rw p.same l)) }

pub counted_same : {f g : ℕ → ℕ} {xs ys : List ℕ} → ((j : ℕ) → g j ≡ f j) → Counted f xs ys → Counted g xs ys
counted_same e p = record { same = p.same; each = λ j l. omega (arith, e j, p.each j l) }

-- one use of m: its own count grows up to two, and no other changes
counted_one :
    (xs ys : List ℕ) (m : ℕ) → length ys ≡ length xs
    → (m < length xs → min 2 (get_or ys m 0) ≡ min 2 (get_or xs m 0 + 1))
    → ((j : ℕ) → (j ≡ m → ⊥) → get_or ys j 0 ≡ get_or xs j 0)
    → Counted (λ j. occurrences j (m ∷ [])) xs ys
unfolding occurrences one_if
counted_one xs ys m e own other = record { same = e; each = λ j l. go j l (eqb m j) refl }
  where
    go : (j : ℕ) → j < length xs → (b : Bool) → eqb m j ≡ b → min 2 (get_or ys j 0) ≡ min 2 (get_or xs j 0 + (one_if b + 0))
    go j l true q = subst (λ (k : ℕ). min 2 (get_or ys k 0) ≡ min 2 (get_or xs k 0 + 1)) (eqb-true m j q) (own (rw (eqb-true m j q) l))
    go j l false q = rw (other j (λ p. eqb-false m j q (sym p))) (omega arith)

-- a count below two grows by one
pub counted_more : (xs : List ℕ) (m : ℕ) → Counted (λ j. occurrences j (m ∷ [])) xs (set xs m (get_or xs m 0 + 1))
counted_more xs m =
    counted_one xs (set xs m (get_or xs m 0 + 1)) m (length-set xs m _) (λ l. rw (get_or-set_same xs m (get_or xs m 0 + 1) 0 l))
    (λ j n. get_or-set_other xs m j _ 0 n)

-- a count of two stays
pub counted_full : (xs : List ℕ) (m : ℕ) → 2 ≤ get_or xs m 0 → Counted (λ j. occurrences j (m ∷ [])) xs xs
counted_full xs m h = counted_one xs xs m refl (λ l. omega arith) (λ j n. refl)

-- a field that may be a child is counted before the others
counted_field :
    (b : Bool) (m : ℕ) (ms : List ℕ) {xs ys zs : List ℕ} → Counted (λ j. occurrences j (kept_if b m [])) xs ys
    → Counted (λ j. occurrences j ms) ys zs → Counted (λ j. occurrences j (kept_if b m ms)) xs zs
unfolding kept_if occurrences
counted_field true m ms p q = counted_same (λ j. omega arith) (counted_both p q)
counted_field false m ms p q = counted_same (λ j. omega arith) (counted_both p q)

-- the three fields
pub counted_fields :
    (row : Row) (a b c : ℕ) {ws xs ys zs : List ℕ}
    → Counted (λ j. occurrences j (kept_if (is_child row.0) a [])) ws xs
    → Counted (λ j. occurrences j (kept_if (is_child row.1) b [])) xs ys
    → Counted (λ j. occurrences j (kept_if (is_child row.2) c [])) ys zs
    → Counted (λ j. occurrences j (row_children row a b c)) ws zs
unfolding row_children
counted_fields row a b c p q r = counted_field _ a _ p (counted_field _ b _ q r)

-- the uses by one node more, which stands in a word
pub counted_node :
    (ws : List ℕ) (i : ℕ) {w : ℕ} {xs ys zs : List ℕ} → w ≡ get_or ws i 0 → Counted (uses_below (columns_in ws) i) xs ys
    → Counted (λ j. occurrences j (word_children w)) ys zs → Counted (uses_below (columns_in ws) (i + 1)) xs zs
unfolding uses_below
counted_node ws i e p q = counted_same (λ j. rw (add-one i, word_children_lem ws i e)) (counted_both p q)

-- capped counts that started at zero tell whether a node is used once
pub counted_once :
    (f : ℕ → ℕ) (k : ℕ) (ys : List ℕ) → Counted f (replicate k 0) ys → (j : ℕ) → j < k → eqb (get_or ys j 0) 1 ≡ eqb (f j) 1
counted_once f k ys p j l = go (eqb (f j) 1) refl
  where
    e : min 2 (get_or ys j 0) ≡ min 2 (f j)
    e = omega (arith, p.each j (rw (length-replicate {A = ℕ} k 0) l), get_or-replicate {A = ℕ} k j 0 0 l)

    go : (b : Bool) → eqb (f j) 1 ≡ b → eqb (get_or ys j 0) 1 ≡ b
    go true q = let r : f j ≡ 1 = eqb-true (f j) 1 q in eq-eqb (get_or ys j 0) 1 (omega (arith, e))
    go false q = ne_eqb (get_or ys j 0) 1 (λ r. eqb-false (f j) 1 q (omega (arith, e)))
