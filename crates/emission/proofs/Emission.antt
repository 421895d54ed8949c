-- Written nodes, one piece behind the other, and the node over them: what the code puts for a cell is its tree's nodes. Assumes
-- nothing.
use Prim.Native.Nat.{ℕ, suc, ◌+◌, ◌*◌, ◌≤◌, ◌<◌}
use mathlib.Core.Path.{◌≡◌, refl, sym, ap, ◌∙◌}
use mathlib.Core.List.{List, [], ◌∷◌, ◌++◌, append-nil}
use native.Mathlib.Numerals.{add-one}
use native.Mathlib.Omega.{arith}
use lib.IntN.{ℤ, pos}
use lib.ListN.{length}
use Rattle.lambdamix.specs.declared.Use.{Use}
use Rattle.lambdamix.specs.declared.Use.TheVariants.{Child}
use Rattle.lambdamix.specs.Limits.{max_nodes}
use Rattle.lambdamix.specs.Script.{Node}
use Rattle.lambdamix.specs.Code.{Code, Codes, lit, ref, nil_c, node, last_node, number_after, nodes_from, all_nodes_from}
use Rattle.lambdamix.proofs.WrittenTree.{after_last}
use Rattle.script.specs.File.{node_bytes, records}
use Rattle.script.specs.declared.Row.{Row}
use Rattle.script.specs.Words.{word_a, word_b, word_c}
use Rattle.file.specs.Written.{Put, PutWhole}
use Rattle.file.proofs.RecordLaws.{records_length}
use Rattle.file.proofs.Layouts.{node_layout, node_sized}
use Rattle.file.proofs.WritingLaws.{put_there, put_both, put_length, put_same, records_append}
use Rattle.residual.specs.Cells.{code_at, piece_by, row_pieces, field_by, row_node}
use Rattle.emission.specs.Emission.{Emits, EmitsAll, EmitsOver, EmitsField}
use Rattle.residual.proofs.CellLaws.{past_read}
use Rattle.residual.proofs.Rows.{by_piece, plain, ByRow}

-- ---- bytes

-- nodes from number k on, and what is put behind them
put_nodes :
    (base k : ℕ) {j : ℕ} {l m m' bs : List ℕ} (ns : List Node) → Put l (base + 13 * k) (records node_bytes ns) m →
    j ≡ k + length ns → Put m (base + 13 * j) bs m' → Put l (base + 13 * k) (records node_bytes ns ++ bs) m'
put_nodes base k ns p e q = put_both p (omega (arith, records_length node_layout ns)) q

pub put_at : {i j : ℕ} {l m bs : List ℕ} → i ≡ j → PutWhole l i bs m → PutWhole l j bs m
put_at e p = rw (← e) p

one_record : (nd : Node) → records node_bytes (nd ∷ []) ≡ node_bytes nd
unfolding records
one_record nd = append-nil (node_bytes nd)

-- nodes, and a last one behind them
records_last : (ns : List Node) (nd : Node) → records node_bytes ns ++ node_bytes nd ≡ records node_bytes (ns ++ (nd ∷ []))
records_last ns nd = rw (records_append node_bytes ns (nd ∷ []), one_record nd)

-- ---- constants

-- a node with room for it, here and behind nodes that were put
put_node : {l m : List ℕ} {i : ℕ} (nd : Node) → i + 13 ≤ length l → PutWhole l i (node_bytes nd) m → Put l i (node_bytes nd) m
put_node nd h p = put_there (node_sized nd) h p

pub emits_lit :
    (base k : ℕ) (z : ℤ) {l m m' : List ℕ} → k + 1 < max_nodes → PutWhole l (base + 13 * k) (node_bytes (node 0 0 0 0 z)) m →
    PutWhole m (base + 13 * (k + 1)) (node_bytes (node 2 k 0 0 (pos 0))) m' → Emits (lit z) base k l m' (k + 1)
unfolding last_node nodes_from
emits_lit base k z h p q =
    record {
      number = add-one k;
      within = h;
      put =
          λ f.
          let a = put_node (node 0 0 0 0 z) (omega arith) p in
          put_same (records_last (node 0 0 0 0 z ∷ []) (node 2 k 0 0 (pos 0)))
          (put_nodes base k (node 0 0 0 0 z ∷ []) (put_same (sym (one_record (node 0 0 0 0 z))) a) (omega arith)
          (put_node (node 2 k 0 0 (pos 0)) (omega (arith, put_length a)) q));
    }

module _ {c : Code} {z : ℤ} (e : c ≡ lit z) where
  pub within_constant : (k : ℕ) → last_node k c < max_nodes → k + 1 < max_nodes
  unfolding last_node
  within_constant k h = omega (arith, rw e at h)

  pub emits_constant : {y : ℤ} {base k r : ℕ} {l m : List ℕ} → y ≡ z → Emits (lit y) base k l m r → Emits c base k l m r
  emits_constant f p = rw (e, ← f) p

-- past the store's end stands a constant
pub code_past : (xs : List ℕ) (p : ℕ) → length xs ≤ p → code_at xs p ≡ lit (pos 0)
code_past xs p h = (past_read h).code

-- a variable's node
pub emits_variable :
    {c : Code} {f x base k : ℕ} {l m : List ℕ} → c ≡ ref x → f ≡ x → last_node k c < max_nodes →
    PutWhole l (base + 13 * k) (node_bytes (node 1 f 0 0 (pos 0))) m → Emits c base k l m k
unfolding last_node nodes_from
emits_variable {f = f} e g h p =
    rw (e, ← g)
    (record {
      number = refl;
      within = rw e at h;
      put = λ y. put_same (sym (one_record (node 1 f 0 0 (pos 0)))) (put_node (node 1 f 0 0 (pos 0)) y p);
    })

-- ---- fields

after_piece : (u : Use) (c : Code) (cs : Codes) (k : ℕ) → number_after k (piece_by u c cs) ≡ number_after (number_after k (piece_by u c nil_c)) cs
unfolding last_node
after_piece u c cs k = by_piece u c (λ f. number_after k (f cs) ≡ number_after (number_after k (f nil_c)) cs) refl refl

nodes_piece :
    (u : Use) (c : Code) (cs : Codes) (k : ℕ) →
    all_nodes_from k (piece_by u c nil_c) ++ all_nodes_from (number_after k (piece_by u c nil_c)) cs ≡ all_nodes_from k (piece_by u c cs)
unfolding last_node nodes_from
nodes_piece u c cs k =
    by_piece u c (λ f. all_nodes_from k (f nil_c) ++ all_nodes_from (number_after k (f nil_c)) cs ≡ all_nodes_from k (f cs)) refl (simp append-nil)

pub emits_none : {base k : ℕ} {l : List ℕ} → EmitsAll nil_c base k l l k
unfolding last_node nodes_from records
emits_none = record { next = refl; put = λ f. record { puts = refl } }

-- a field that holds no piece, and one that does
pub emits_plain : {u : Use} {c : Code} {f base k v : ℕ} {l : List ℕ} → (u ≡ Child → ⊥) → v ≡ field_by u f 0 → EmitsField u c f base k l l v k
emits_plain {u} {c} {f} {k = k} h e = record { value = e ∙ (plain u c nil_c f (last_node k c) h).1; pieces = rw (plain u c nil_c f 0 h).0 emits_none }

module _ {u : Use} (c : Code) (e : u ≡ Child) where
  pub within_child : (k : ℕ) → number_after k (piece_by u c nil_c) < max_nodes → last_node k c < max_nodes
  unfolding piece_by last_node
  within_child k h = omega (arith, rw e at h)

  pub emits_child : {f base k r : ℕ} {l m : List ℕ} → Emits c base k l m r → EmitsField u c f base k l m r (r + 1)
  unfolding piece_by field_by last_node nodes_from
  emits_child {k = k} {r} a =
      rw e
      (record {
        value = a.number;
        pieces =
            record {
              next = add-one r ∙ ap suc a.number;
              put = λ f. put_same (ap (records node_bytes) (sym (append-nil (nodes_from k c)))) (a.put (omega arith));
            };
      })

-- a field, and others behind it
module _ (self : ℕ → Code) (u : Use) (cs : Codes) {q i : ℕ} (e : q ≡ i) where
  pub emits_more :
      {base k n n' : ℕ} {l m m' : List ℕ} → EmitsAll (piece_by u (self q) nil_c) base k l m n → EmitsAll cs base n m m' n' →
      EmitsAll (piece_by u (self i) cs) base k l m' n'
  emits_more {base} {k} {n} a s =
      let c = self q in
      let one = piece_by u c nil_c in
      rw (← e)
      (record {
        next = s.next ∙ ap (λ (j : ℕ). number_after j cs) a.next ∙ sym (after_piece u c cs k);
        put =
            λ f.
            let p = a.put (omega (arith, s.next, after_last cs n)) in
            put_same
            (ap (λ (j : ℕ). records node_bytes (all_nodes_from k one) ++ records node_bytes (all_nodes_from j cs)) a.next
            ∙ sym (records_append node_bytes (all_nodes_from k one) (all_nodes_from (number_after k one) cs))
            ∙ ap (records node_bytes) (nodes_piece u c cs k))
            (put_nodes base k (all_nodes_from k one) p (a.next ∙ after_last one k) (s.put (omega (arith, put_length p))));
      })

  -- where the last node's number is low, so are those before it
  module _ (k : ℕ) (h : number_after k (piece_by u (self i) cs) < max_nodes) where
    pub within_first : number_after k (piece_by u (self q) nil_c) < max_nodes
    within_first = rw e (omega (arith, after_piece u (self i) cs k, after_last cs (number_after k (piece_by u (self i) nil_c))))

    pub within_rest : {n : ℕ} → n ≡ number_after k (piece_by u (self q) nil_c) → number_after n cs < max_nodes
    within_rest f = rw (f, e) (omega (arith, after_piece u (self i) cs k))

-- ---- a node over pieces

emits_over :
    {cs : Codes} (over : Node) {base k n : ℕ} {l m m' : List ℕ} → EmitsAll cs base k l m n →
    PutWhole m (base + 13 * n) (node_bytes over) m' → EmitsOver cs over base k l m' n
emits_over {cs} over {base} {k} s p =
    record {
      number = s.next;
      put =
          λ f.
          let q = s.put (omega arith) in
          put_same (records_last (all_nodes_from k cs) over)
          (put_nodes base k (all_nodes_from k cs) q (s.next ∙ after_last cs k) (put_node over (omega (arith, put_length q)) p));
    }

-- the fields of a cell x one after the other, and the node over them
pub emits_fields :
    (self : ℕ → Code) (j x : ℕ) (r : Row) {f g h base k n n' n'' v v' v'' : ℕ} {l m m' m'' out : List ℕ} →
    f ≡ word_a x → g ≡ word_b x → h ≡ word_c x → EmitsField r.0 (self f) f base k l m v n →
    EmitsField r.1 (self g) g base n m m' v' n' → EmitsField r.2 (self h) h base n' m' m'' v'' n'' →
    PutWhole m'' (base + 13 * n'') (node_bytes (node j v v' v'' (pos 0))) out →
    EmitsOver (row_pieces r self x) (row_node j r self x k) base k l out n''
unfolding row_node
emits_fields self j x r {k = k} d e f a b c p =
    emits_over (row_node j r self x k)
    (emits_more self r.0 _ d a.pieces (emits_more self r.1 _ e b.pieces (emits_more self r.2 nil_c f c.pieces emits_none)))
    (rw (← d, ← e, ← f, ← a.value, ← a.pieces.next, ← b.value, ← b.pieces.next, ← c.value) p)

-- code by its cell's row
module _ {c : Code} {j x : ℕ} {w : Row} {self : ℕ → Code} (b : ByRow c j w self x) where
  pub emits_row :
      {base k r : ℕ} {l m : List ℕ} → last_node k c < max_nodes → EmitsOver (row_pieces w self x) (row_node j w self x k) base k l m r →
      Emits c base k l m r
  emits_row {k = k} h s =
      let e = s.number ∙ sym (b.number k) in
      record {
        number = e;
        within = omega (arith, e);
        put = λ f. put_same (ap (records node_bytes) (sym (b.nodes k))) (s.put f);
      }

  pub within_row : (k : ℕ) → last_node k c < max_nodes → number_after k (row_pieces w self x) < max_nodes
  within_row k h = rw (b.number k) at h
