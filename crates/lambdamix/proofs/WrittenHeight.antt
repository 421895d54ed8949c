-- A written script is as high as its code, and passes refusal 7 where its code is no higher than the limit. Assumes nothing.
use Prim.Native.Nat.{ℕ, suc, ◌+◌, ◌≤◌, ◌<◌, max}
use mathlib.Core.Path.{◌≡◌, refl, ap, ap₂, ◌∙◌}
use mathlib.Core.Bool.{true}
use mathlib.Core.Option.{none}
use mathlib.Core.Logic.{⊎_elim}
use native.Mathlib.Omega.{arith}
use native.Mathlib.Nat.{le_of_eq, eq-or-lt_of_le}
use lib.Dec.{leb, ltb}
use borrow.Author.Tests.{le-leb, leb-true, ltb-true, ltb-false}
use Rattle.lambdamix.specs.Limits.{max_height}
use Rattle.lambdamix.specs.Script.{Script, node_count, rows, row_of}
use Rattle.lambdamix.specs.Term.{build, tree, height, heights}
use Rattle.lambdamix.specs.Code.{Code, Codes, lit, ref, fn, form, nil_c, cons_c, code_height, code_heights, written}
use Rattle.lambdamix.specs.Code.{last_node, number_after, nodes_from, all_nodes_from}
use Rattle.lambdamix.specs.Refusal.{refused_at}
use Rattle.lambdamix.specs.Structure.{low_enough, height_refusal}
use Rattle.lambdamix.proofs.Tests.{holds_or_fails}
use Rattle.lambdamix.proofs.Structure.{none_fails}
use Rattle.lambdamix.proofs.WrittenTree.{written_term, written_terms, WellFormed, formed_lit, formed_ref, formed_fn, formed_form, AllWellFormed}
use Rattle.lambdamix.proofs.WrittenTree.{formed_nil, formed_cons, top_last, Holds, holds_left, holds_right, tree_at, tree_of, written_holds}

-- A code's tree is as high as the code.
mutual
  unfolding written_term height code_height

  pub height_of : (c : Code) (k : ℕ) → height (written_term k c) ≡ code_height c
  height_of (lit z) k = refl
  height_of (ref x) k = refl
  height_of (fn x c) k = ap suc (height_of c k)
  height_of (form f cs) k = ap suc (heights_of cs k)

  heights_of : (cs : Codes) (k : ℕ) → heights (written_terms k cs) ≡ code_heights cs
  heights_of nil_c k = refl
  heights_of (cons_c c cs) k = ap₂ max (height_of c k) (heights_of cs (suc (last_node k c)))

module _ (s : Script) where
  -- from k on and below m no tree is higher than h
  abbrev Low : ℕ → ℕ → ℕ → Type 0
  Low k m h = (i : ℕ) → k ≤ i → i < m → height (tree s i) ≤ h

  -- what is low below the last node of a piece is low up to it: there stands the piece's tree
  with_top :
      {c : Code} (k : ℕ) → WellFormed c → Holds s k (nodes_from k c) → Low k (last_node k c) (code_height c) →
      Low k (suc (last_node k c)) (code_height c)
  with_top {c} k w h low i a b =
      ⊎_elim (λ e. le_of_eq (ap height (ap (tree s) e ∙ tree_of s k w h) ∙ height_of c k)) (low i a)
      (eq-or-lt_of_le (omega arith))

  -- The trees in a piece that a table holds are no higher than the piece.
  mutual
    unfolding last_node nodes_from code_height height build row_of rows

    low_piece : {c : Code} (k : ℕ) → WellFormed c → Holds s k (nodes_from k c) → Low k (suc (last_node k c)) (code_height c)
    low_piece k formed_lit h =
        with_top k formed_lit h (λ i a b. rw (tree_at s i _ (h i 0 (omega arith) (omega arith))) (omega arith))
    low_piece k formed_ref h = with_top k formed_ref h (λ i a b. absurd (omega arith))
    low_piece k (formed_fn {c} w) h =
        with_top k (formed_fn w) h (λ i a b. omega (arith, low_piece k w (holds_left s k (nodes_from k c) _ h) i a b))
    low_piece k (formed_form {cs} ws) h =
        with_top k (formed_form ws) h (λ i a b. omega (arith, low_pieces k ws (holds_left s k (all_nodes_from k cs) _ h) i a b))

    low_pieces :
        {cs : Codes} {n : ℕ} (k : ℕ) → AllWellFormed cs n → Holds s k (all_nodes_from k cs) →
        Low k (number_after k cs) (code_heights cs)
    low_pieces k formed_nil h = λ i a b. absurd (omega arith)
    low_pieces k (formed_cons {c} {cs} w ws) h = λ i a b.
        let m = suc (last_node k c) in
        ⊎_elim
        (λ e. omega (arith, low_piece k w (holds_left s k (nodes_from k c) _ h) i a (ltb-true i m e)))
        (λ e. omega (arith, low_pieces m ws (holds_right s k m (nodes_from k c) _ (top_last c k) h) i (ltb-false i m e) b))
        (holds_or_fails (ltb i m))

-- A written script passes refusal 7 if its code is no higher than the limit.
pub written_height :
    {c : Code} (s : Script) → WellFormed c → leb (code_height c) max_height ≡ true → height_refusal (written s c) ≡ none
unfolding height_refusal low_enough refused_at node_count written
written_height {c} s w l = rw (none_fails (low_enough (written s c)) 0 (node_count (written s c)) low)
  where
    low : (i : ℕ) → 0 ≤ i → i < 0 + node_count (written s c) → low_enough (written s c) i ≡ true
    low i a b =
        let h = low_piece (written s c) 0 w (written_holds s c) i a (omega (arith, top_last c 0)) in
        le-leb _ max_height (omega (arith, h, leb-true (code_height c) max_height l))
