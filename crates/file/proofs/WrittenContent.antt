-- The nodes of a written script are good records: refusals 3, 4 and 5 do not hold of it. Assumes nothing.
use Prim.Native.Nat.{ℕ, zero, suc, ◌+◌, ◌≤◌, ◌<◌}
use mathlib.Core.Path.{◌≡◌, refl, sym, subst}
use mathlib.Core.Bool.{true}
use mathlib.Core.List.{List, [], ◌∷◌, ◌++◌}
use mathlib.Core.Option.{none}
use native.Mathlib.Omega.{arith}
use native.Mathlib.Nat.{le_refl, add-zero, zero-add}
use lib.IntN.{pos}
use lib.ListN.{length, get_or}
use lib.Dec.{leb, ltb}
use borrow.Author.Tests.{lt-ltb, le-leb, ltb-true, leb-true}
use Rattle.lambdamix.specs.Arithmetic.{Fits32}
use Rattle.lambdamix.specs.declared.Operator.{Operator}
use Rattle.lambdamix.specs.declared.Operator.TheVariants.{Add, Subtract, Multiply, Divide, Equal, Less}
use Rattle.lambdamix.specs.Limits.{max_types, max_inputs, max_nodes, max_height}
use Rattle.lambdamix.specs.Refusal.{first_failing, or_else}
use Rattle.lambdamix.specs.Script.{Script, Node, rows, row_of, fields, input_count, node_count, node_at, blank_node}
use Rattle.lambdamix.specs.Term.{Former, applying, fixing, choosing, operating, arity}
use Rattle.lambdamix.specs.Code.{Code, Codes, nil_c, cons_c, node, form_node, operator_number, written, size}
use Rattle.lambdamix.specs.Code.{last_node, number_after, last_nodes, nodes_from, all_nodes_from}
use Rattle.lambdamix.specs.Code.{code_height, fits}
use Rattle.lambdamix.proofs.Suits.{Scoped, ScopedAll, lit_scoped, input_scoped, open_scoped, fn_scoped, form_scoped, nil_scoped, cons_scoped}
use Rattle.lambdamix.proofs.WrittenTree.{top_last, after_last, written_size}
use Rattle.lambdamix.proofs.Structure.{none_fails}
use Rattle.lambdamix.proofs.Tests.{and_both}
use Rattle.lambdamix.proofs.Range.{CodeFits, CodesFit}
use Rattle.script.specs.Widths.{EncodableNode}
use Rattle.script.specs.Refusals.{field_right, fields_right, node_fits, input_fits, counts_right, content_of, content_refusal, refused_record}

-- a node is a good record at the number j, given the counts of types and inputs, and fits the widths of the file
pub record Good (t n j : ℕ) (nd : Node) : Type 0 where
  pub right : node_fits t n (λ i. nd) j ≡ true
  pub encodable : EncodableNode nd

-- so are all nodes of a list, numbered from k
data AllGood (t n : ℕ) : ℕ → List Node → Type 0 where
  no_node : {k : ℕ} → AllGood t n k []
  and_node : {k : ℕ} {nd : Node} {nds : List Node} → Good t n k nd → AllGood t n (suc k) nds → AllGood t n k (nd ∷ nds)

joined :
    {t n k m : ℕ} {nds : List Node} (more : List Node) → AllGood t n k nds → m ≡ k + length nds → AllGood t n m more →
    AllGood t n k (nds ++ more)
joined {t} {n} {k} {m} more no_node e h = let q : m ≡ k = omega arith in subst (λ i. AllGood t n i more) q h
joined more (and_node g gs) e h = and_node g (joined more gs (omega arith) h)

operator_right : (o : Operator) → ltb (operator_number o) 6 ≡ true
unfolding operator_number
operator_right Add = refl
operator_right Subtract = refl
operator_right Multiply = refl
operator_right Divide = refl
operator_right Equal = refl
operator_right Less = refl

one : {t n k : ℕ} (nd : Node) → Good t n k nd → AllGood t n k (nd ∷ [])
one nd g = and_node g no_node

-- each piece's last node stands before the next piece
data Before (m : ℕ) : List ℕ → Type 0 where
  no_number : Before m []
  and_number : {i : ℕ} {is : List ℕ} → i < m → Before m is → Before m (i ∷ is)

zero_fits : Fits32 (pos 0)
zero_fits = omega arith

form_good :
    {s : Script} {N : ℕ} {O : List ℕ} {cs : Codes} (t k m : ℕ) (f : Former) → m < 65536 → ScopedAll s N O cs (arity f) →
    Before m (last_nodes k cs) → Good t (input_count s) m (form_node f (last_nodes k cs))
unfolding arity last_nodes form_node node_fits row_of rows fields fields_right field_right
form_good t k m applying l (cons_scoped p (cons_scoped q nil_scoped)) (and_number x (and_number y no_number)) =
    record {
      right = rw (lt-ltb _ _ x, lt-ltb _ _ y);
      encodable = record { kind = omega arith; a = omega arith; b = omega arith; c = omega arith; value = zero_fits };
    }
form_good t k m fixing l (cons_scoped p nil_scoped) (and_number x no_number) =
    record {
      right = rw (lt-ltb _ _ x);
      encodable = record { kind = omega arith; a = omega arith; b = omega arith; c = omega arith; value = zero_fits };
    }
form_good t k m choosing l (cons_scoped p (cons_scoped q (cons_scoped r nil_scoped)))
    (and_number x (and_number y (and_number z no_number))) =
    record {
      right = rw (lt-ltb _ _ x, lt-ltb _ _ y, lt-ltb _ _ z);
      encodable = record { kind = omega arith; a = omega arith; b = omega arith; c = omega arith; value = zero_fits };
    }
form_good t k m (operating o) l (cons_scoped p (cons_scoped q nil_scoped)) (and_number x (and_number y no_number)) =
    record {
      right = rw (lt-ltb _ _ x, lt-ltb _ _ y, operator_right o);
      encodable =
          record {
            kind = omega arith;
            a = omega arith;
            b = omega arith;
            c = omega (arith, ltb-true (operator_number o) 6 (operator_right o));
            value = zero_fits;
          };
    }

-- pieces only add numbers
after_grows : (cs : Codes) (k : ℕ) → k ≤ number_after k cs
after_grows cs k = omega (arith, after_last cs k)

tops_before : (cs : Codes) (k m : ℕ) → number_after k cs ≤ m → Before m (last_nodes k cs)
unfolding last_nodes last_node
tops_before nil_c k m h = no_number
tops_before (cons_c c cs) k m h =
    and_number {i = last_node k c} (omega (arith, after_grows cs (suc (last_node k c)))) (tops_before cs (suc (last_node k c)) m h)

variable_good : (t n k x : ℕ) → x < 65536 → Good t n k (node 1 x 0 0 (pos 0))
unfolding node_fits row_of rows fields fields_right field_right
variable_good t n k x l =
    record {
      right = refl;
      encodable = record { kind = omega arith; a = l; b = omega arith; c = omega arith; value = zero_fits };
    }

-- The nodes of scoped code whose constants have 32 bits are good, where their numbers and the names fit 16 bits.
module _ {s : Script} {N : ℕ} (few : input_count s ≤ 65536) (names : N ≤ 65536) (t : ℕ) where
  mutual
    unfolding nodes_from last_node node_fits row_of rows fields fields_right field_right

    nodes_good :
        {O : List ℕ} {c : Code} (k : ℕ) → Scoped s N O c → CodeFits c → last_node k c < 65536 →
        AllGood t (input_count s) k (nodes_from k c)
    nodes_good k (lit_scoped {z}) v l =
        and_node {k = k} {nd = node 0 0 0 0 z}
        (record {
          right = refl;
          encodable = record { kind = omega arith; a = omega arith; b = omega arith; c = omega arith; value = v };
        })
        (one (node 2 k 0 0 (pos 0))
        (record {
          right = rw (lt-ltb k (suc k) (omega arith));
          encodable = record { kind = omega arith; a = omega arith; b = omega arith; c = omega arith; value = zero_fits };
        }))
    nodes_good k (input_scoped {x} i) v l = one (node 1 x 0 0 (pos 0)) (variable_good t (input_count s) k x (omega (arith, i.input)))
    nodes_good k (open_scoped {x} g) v l = one (node 1 x 0 0 (pos 0)) (variable_good t (input_count s) k x (omega (arith, g.taken)))
    nodes_good k (fn_scoped {x} {c} g p) v l =
        joined (node 8 x 0 (last_node k c) (pos 0) ∷ []) (nodes_good k p v (omega arith)) (top_last c k)
        (one (node 8 x 0 (last_node k c) (pos 0))
        (record {
          right = rw (le-leb (input_count s) x g.generated, lt-ltb (last_node k c) (suc (last_node k c)) (omega arith));
          encodable =
              record { kind = omega arith; a = omega (arith, g.taken); b = omega arith; c = omega arith; value = zero_fits };
        }))
    nodes_good k (form_scoped {O} {f} {cs} e ps) v l =
        joined (form_node f (last_nodes k cs) ∷ []) (all_nodes_good k ps v (omega arith)) (after_last cs k)
        (one (form_node f (last_nodes k cs))
        (form_good t k (number_after k cs) f l (subst (ScopedAll s N O cs) (sym e) ps) (tops_before cs k (number_after k cs) (le_refl _))))

    all_nodes_good :
        {j : ℕ} {O : List ℕ} {cs : Codes} (k : ℕ) → ScopedAll s N O cs j → CodesFit cs → number_after k cs < 65536 →
        AllGood t (input_count s) k (all_nodes_from k cs)
    all_nodes_good k nil_scoped v l = no_node
    all_nodes_good k (cons_scoped {c} {cs} p ps) v l =
        joined (all_nodes_from (suc (last_node k c)) cs) (nodes_good k p v.0 (omega (arith, after_grows cs (suc (last_node k c))))) (top_last c k)
        (all_nodes_good (suc (last_node k c)) ps v.1 l)

good_at :
    {t n k : ℕ} {nds : List Node} → AllGood t n k nds → (j : ℕ) → j < length nds → Good t n (k + j) (get_or nds j blank_node)
good_at no_node j h = let z : ⊥ = omega arith in absurd z
good_at {t} {n} {k} (and_node {nd} g gs) zero h = subst (λ i. Good t n i nd) (sym (add-zero k)) g
good_at {t} {n} {k} (and_node {nds} g gs) (suc j) h =
    let q : suc k + j ≡ k + suc j = omega arith in
    subst (λ i. Good t n i (get_or nds j blank_node)) q (good_at gs j (omega arith))

-- Where 26 does not hold, refusals 3 to 5 do not hold of the written script, and it fits the widths of a file, given that 3
-- and 4 do not hold of the inputs that it has from the script.
module _
    {N : ℕ}
    {c : Code}
    (s : Script)
    (few : leb (length s.inputs) max_inputs ≡ true)
    (right : first_failing (input_fits (λ j. get_or s.inputs j 0)) 0 (length s.inputs) ≡ none)
    (scoped : Scoped s N [] c)
    (names : N ≤ 65536)
    (constants : CodeFits c)
    (fitting : fits c ≡ true)
  where
    pub sizes_right : (size c ≤ max_nodes) × (length (nodes_from 0 c) ≡ size c)
    unfolding fits node_count written
    sizes_right =
        (leb-true (size c) max_nodes (and_both (leb (size c) max_nodes) (leb (code_height c) max_height) fitting).0, written_size s c)

    pub each_good : (j : ℕ) → j < length (nodes_from 0 c) → Good 0 (input_count s) j (get_or (nodes_from 0 c) j blank_node)
    unfolding max_nodes max_inputs input_count
    each_good j l =
        let (small, same) = sizes_right in
        let inputs : length s.inputs ≤ max_inputs = leb-true (length s.inputs) max_inputs few in
        subst (λ i. Good 0 (input_count s) i (get_or (nodes_from 0 c) j blank_node)) (zero-add j)
        (good_at (nodes_good (omega arith) names 0 0 scoped constants (omega (arith, top_last c 0))) j l)

    pub written_counts : counts_right 0 (length s.inputs) (length (nodes_from 0 c)) ≡ true
    unfolding counts_right max_types
    written_counts =
        let (small, same) = sizes_right in
        let some : leb 1 (length (nodes_from 0 c)) ≡ true = le-leb 1 (length (nodes_from 0 c)) (omega (arith, top_last c 0)) in
        rw (few, some, same, le-leb (size c) max_nodes small)

    pub written_content : content_refusal (written s c) ≡ none
    unfolding content_refusal content_of or_else refused_record first_failing written node_at node_fits input_count
    written_content =
        rw (
          right,
          none_fails (node_fits 0 (length s.inputs) (λ j. get_or (nodes_from 0 c) j blank_node)) 0 (length (nodes_from 0 c))
              (λ j a b. (each_good j (omega arith)).right),
        )
