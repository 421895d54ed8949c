-- A written script passes refusal 6: each of its nodes but the root is the child of exactly one place. Assumes nothing.
use Prim.Native.Nat.{ℕ, suc, ◌+◌, ◌≤◌, ◌<◌}
use mathlib.Core.Path.{◌≡◌, refl}
use mathlib.Core.Bool.{Bool, true, false}
use mathlib.Core.List.{List, [], ◌∷◌, ◌++◌}
use mathlib.Core.Option.{none}
use native.Mathlib.Omega.{arith}
use lib.Dec.{ltb, eqb}
use borrow.Author.Tests.{ltb-true, ltb-false, eqb-true, eqb-false, lt-ltb, le-ltb, eq-eqb}
use Rattle.lambdamix.specs.Script.{Script, Node, root, rows, row_of, fields, if_child, child_fields, children}
use Rattle.lambdamix.specs.Code.{Code, Codes, last_node, number_after, last_nodes, nodes_from, all_nodes_from, written}
use Rattle.lambdamix.specs.Refusal.{refused_at}
use Rattle.lambdamix.specs.Structure.{one_if, occurrences, uses, used_once, use_refusal}
use Rattle.lambdamix.proofs.Structure.{none_fails}
use Rattle.lambdamix.proofs.WrittenTree.{WellFormed, formed_lit, formed_ref, formed_fn, formed_form, AllWellFormed, formed_nil, formed_cons}
use Rattle.lambdamix.proofs.WrittenTree.{form_children, written_root}

uses_append : (p q : List Node) (i : ℕ) → uses (p ++ q) i ≡ uses p i + uses q i
unfolding uses
uses_append [] q i = omega arith
uses_append (nd ∷ p) q i = omega (arith, uses_append p q i)

-- 1 if i is below m, else 0
abbrev under : ℕ → ℕ → ℕ
under m i = one_if (ltb i m)

under_suc : (m i : ℕ) → under (suc m) i ≡ under m i + one_if (eqb m i)
unfolding one_if
under_suc m i = go (ltb i m) (eqb m i) refl refl
  where
    go : (p q : Bool) → ltb i m ≡ p → eqb m i ≡ q → under (suc m) i ≡ one_if p + one_if q
    go true true d e = absurd (omega (arith, ltb-true i m d, eqb-true m i e))
    go true false d e = rw (lt-ltb i (suc m) (omega (arith, ltb-true i m d)))
    go false true d e = rw (lt-ltb i (suc m) (omega (arith, eqb-true m i e)))
    go false false d e = rw (le-ltb i (suc m) (omega (arith, ltb-false i m d, eqb-false m i e)))

-- The nodes of a piece have i as a child once if i is from the piece's first node on and before its last, else never. Said
-- as a sum: with 1 for each number before the first node, that is 1 for each number before the last.
mutual
  unfolding uses occurrences last_node last_nodes nodes_from children child_fields if_child fields row_of rows

  uses_of : {c : Code} (k i : ℕ) → WellFormed c → uses (nodes_from k c) i + under k i ≡ under (last_node k c) i
  uses_of k i formed_lit = omega (arith, under_suc k i)
  uses_of k i formed_ref = omega arith
  uses_of k i (formed_fn {c} w) = rw (uses_append (nodes_from k c)) (omega (arith, uses_of k i w, under_suc (last_node k c) i))
  uses_of k i (formed_form {f} {cs} ws) =
      rw (uses_append (all_nodes_from k cs), form_children f k ws) (omega (arith, all_uses_of k i ws))

  all_uses_of :
      {cs : Codes} {n : ℕ} (k i : ℕ) → AllWellFormed cs n →
      uses (all_nodes_from k cs) i + occurrences i (last_nodes k cs) + under k i ≡ under (number_after k cs) i
  all_uses_of k i formed_nil = omega arith
  all_uses_of k i (formed_cons {c} {cs} w ws) =
      rw (uses_append (nodes_from k c)) (omega (arith, uses_of k i w, all_uses_of (suc (last_node k c)) i ws, under_suc (last_node k c) i))

-- A written script passes refusal 6.
pub written_uses : {c : Code} (s : Script) → WellFormed c → use_refusal (written s c) ≡ none
unfolding use_refusal used_once written refused_at one_if
written_uses {c} s w = rw (none_fails (used_once (written s c)) 0 (root (written s c)) once)
  where
    once : (i : ℕ) → 0 ≤ i → i < 0 + root (written s c) → used_once (written s c) i ≡ true
    once i a b =
        eq-eqb (uses (nodes_from 0 c) i) 1
        (omega (arith, rw (le-ltb i 0 a, lt-ltb i (last_node 0 c) (omega (arith, written_root s c))) at (uses_of 0 i w)))
