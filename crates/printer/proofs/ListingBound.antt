-- "no listing passes 65,536 bytes": each node of a script past refusals 1 to 8 but the root is the child of one place, so its
-- own bytes, at most 13, are counted once. So 65,536 bytes are room enough for `list`. Assumes nothing.
use Prim.Native.Nat.{ℕ, zero, suc, ◌+◌, ◌-◌, ◌*◌, ◌≤◌, ◌<◌}
use mathlib.Core.Path.{◌≡◌, refl, sym, ap, ◌∙◌}
use mathlib.Core.Bool.{Bool, true, false}
use mathlib.Core.List.{List, [], ◌∷◌}
use mathlib.Core.Option.{Option, none, some}
use native.Mathlib.Nat.{add-mul, one-mul}
use native.Mathlib.Omega.{arith}
use lib.ListN.{length, get_or, length-append}
use lib.Dec.{ltb, eqb}
use borrow.Author.Tests.{ltb-true, ltb-false, lt-ltb, le-ltb, le-leb, eq-eqb, eqb-true, eqb-false}
use Rattle.lambdamix.specs.Limits.{max_nodes, max_bytes}
use Rattle.lambdamix.specs.Falling.{guarded, below}
use Rattle.lambdamix.specs.Script.{Script, Node, node_at, node_count, input_count, root, children, blank_node}
use Rattle.lambdamix.specs.Refusal.{Refusal, or_else, refused_unless}
use Rattle.lambdamix.specs.Structure.{one_if, occurrences, uses, member}
use Rattle.lambdamix.specs.Term.{tree}
use Rattle.lambdamix.specs.Text.{ascii, digits}
use Rattle.lambdamix.specs.Listing.{term_text, listing}
use Rattle.lambdamix.proofs.Falling.{below_at}
use Rattle.lambdamix.proofs.Tests.{or_left, or_right}
use Rattle.script.specs.Answers.{Writing}
use Rattle.script.specs.Widths.{LentTables}
use Rattle.script.specs.Replies.{replying, writing_reply}
use Rattle.file.specs.Encodable.{Encodable}
use Rattle.file.proofs.WriterRefusals.{lent_encodable}
use Rattle.script.specs.declared.Counts.{Counts}
use Rattle.script.specs.Refusals.{script_refusal}
use Rattle.script.specs.Tables.{Tables, tables_refusal, room_refusal}
use Rattle.script.proofs.RefusalLaws.{neither}
use Rattle.script.proofs.Sound.{Sound, sound}
use Rattle.walks.proofs.Agreement.{children_fall}
use Rattle.layout.specs.Nodes.{nodes_text}
use Rattle.printer.specs.ListCalls.{tables_text, list_refusal, ListsTables}
use Rattle.layout.proofs.NodeLaws.{node_step}
use Rattle.layout.proofs.Trees.{tree_text}
use Rattle.printer.proofs.OwnBytes.{total, own_bytes}

-- ---- sums over numbers, over a list and over the children of all nodes

-- of the n numbers from k on
sum_from : (ℕ → ℕ) → ℕ → ℕ → ℕ
sum_from g k zero = 0
sum_from g k (suc n) = g k + sum_from g (suc k) n

sum_last : (g : ℕ → ℕ) (k n : ℕ) → sum_from g k (suc n) ≡ sum_from g k n + g (k + n)
unfolding sum_from
sum_last g k zero = omega (arith, ap g (let e : k + 0 ≡ k = omega arith in e))
sum_last g k (suc n) = omega (arith, sum_last g (suc k) n, ap g (let e : suc k + n ≡ k + suc n = omega arith in e))

child_total : (ℕ → ℕ) → List Node → ℕ
child_total g [] = 0
child_total g (nd ∷ nds) = total g (children nd) + child_total g nds

total_same : (f g : ℕ → ℕ) (is : List ℕ) → ((i : ℕ) → member i is ≡ true → f i ≡ g i) → total f is ≡ total g is
unfolding total member
total_same f g [] h = refl
total_same f g (i ∷ is) h =
    omega (arith, h i (or_left (member i is) (eq-eqb i i refl)), total_same f g is (λ j m. h j (or_right (eqb i j) m)))

-- the children of a sound script's node stand below it
under : (s : Script) → Sound s → (i m : ℕ) → i < node_count s → member m (children (node_at s i)) ≡ true → m < i
under s h i m l e = children_fall (length s.types) (length s.inputs) (node_at s) i m (h.nodes_fit i l) e

module _ (f g : ℕ → ℕ) where
  child_total_same :
      (nds : List Node) → ((i : ℕ) → i < length nds → total f (children (get_or nds i blank_node)) ≡ total g (children (get_or nds i blank_node))) →
      child_total f nds ≡ child_total g nds
  unfolding child_total
  child_total_same [] h = refl
  child_total_same (nd ∷ nds) h = omega (arith, h 0 (omega arith), child_total_same nds (λ i l. h (suc i) (omega arith)))

-- ---- the children below m, each as often as it is used

module _ (g : ℕ → ℕ) (m : ℕ) where
  one_more : (j : ℕ) → below (suc m) 0 g j ≡ below m 0 g j + one_if (eqb j m) * g m
  unfolding below guarded one_if
  one_more j = go (ltb j m) (eqb j m) refl refl
    where
      go :
          (p q : Bool) → ltb j m ≡ p → eqb j m ≡ q →
          guarded (ltb j (suc m)) 0 g j ≡ guarded p 0 g j + one_if q * g m
      go true true d e = absurd (omega (arith, ltb-true j m d, eqb-true j m e))
      go true false d e = rw (lt-ltb j (suc m) (omega (arith, ltb-true j m d))) (omega arith)
      go false true d e =
          let l : j ≡ m = eqb-true j m e in
          rw (lt-ltb j (suc m) (omega arith)) (omega (arith, ap g l))
      go false false d e =
          rw (le-ltb j (suc m) (omega (arith, ltb-false j m d, eqb-false j m e))) (omega arith)

  total_more : (is : List ℕ) → total (below (suc m) 0 g) is ≡ total (below m 0 g) is + occurrences m is * g m
  unfolding total occurrences
  total_more [] = omega arith
  total_more (i ∷ is) = omega (arith, one_more i, total_more is, add-mul (one_if (eqb i m)) (occurrences m is) (g m))

  child_total_more : (nds : List Node) → child_total (below (suc m) 0 g) nds ≡ child_total (below m 0 g) nds + uses nds m * g m
  unfolding child_total uses
  child_total_more [] = omega arith
  child_total_more (nd ∷ nds) =
      omega (arith, total_more (children nd), child_total_more nds, add-mul (occurrences m (children nd)) (uses nds m) (g m))

none_total : (g : ℕ → ℕ) (is : List ℕ) → total (below 0 0 g) is ≡ 0
unfolding total below guarded
none_total g [] = refl
none_total g (i ∷ is) = rw (le-ltb i 0 (omega arith)) (omega (arith, none_total g is))

none_below : (g : ℕ → ℕ) (nds : List Node) → child_total (below 0 0 g) nds ≡ 0
unfolding child_total
none_below g [] = refl
none_below g (nd ∷ nds) = omega (arith, none_total g (children nd), none_below g nds)

-- ---- numbers that grow by at most 13 from children to parent

module _ (s : Script) (h : Sound s) (g : ℕ → ℕ) where
  used_once_lem : (m : ℕ) → m ≤ root s → child_total (below m 0 g) s.nodes ≡ sum_from g 0 m
  unfolding sum_from
  used_once_lem zero l = none_below g s.nodes
  used_once_lem (suc m) l =
      let o : uses s.nodes m * g m ≡ g m = rw (h.once m l) (one-mul (g m)) in
      let z : g (0 + m) ≡ g m = ap g (omega arith) in
      omega (arith, child_total_more g m s.nodes, used_once_lem m (omega arith), sum_last g 0 m)

  all_used : child_total g s.nodes ≡ sum_from g 0 (root s)
  unfolding root node_count node_at
  all_used =
      child_total_same g (below (root s) 0 g) s.nodes
      (λ i l. total_same g (below (root s) 0 g) _ (λ j k. sym (below_at (root s) 0 g j (omega (arith, under s h i j l k)))))
      ∙ used_once_lem (root s) (omega arith)

sum_own :
    (g : ℕ → ℕ) (k : ℕ) (nds : List Node) →
    ((i : ℕ) → i < length nds → g (k + i) ≤ 13 + total g (children (get_or nds i blank_node))) →
    sum_from g k (length nds) ≤ 13 * length nds + child_total g nds
unfolding sum_from child_total
sum_own g k [] h = omega arith
sum_own g k (nd ∷ nds) h =
    let z : g (k + 0) ≡ g k = ap g (omega arith) in
    omega (arith, h 0 (omega arith), sum_own g (suc k) nds (λ i l. let e : suc k + i ≡ k + suc i = omega arith in rw e (h (suc i) (omega arith))))

root_most :
    (s : Script) (g : ℕ → ℕ) → Sound s →
    ((i : ℕ) → i < node_count s → g i ≤ 13 + total g (children (node_at s i))) → g (root s) ≤ 13 * node_count s
unfolding root node_count node_at
root_most s g h own =
    let n : ℕ = node_count s - 1 in
    let e : length s.nodes ≡ suc n = omega (arith, h.within.some_node) in
    let z : g (0 + n) ≡ g n = ap g (omega arith) in
    omega (arith, rw e at (sum_own g 0 s.nodes (λ i l. let e : 0 + i ≡ i = omega arith in rw e (own i l))), sum_last g 0 n, all_used s h g)

-- ---- the bytes of a listing

module _ (s : Script) (fits : Encodable s) (h : Sound s) where
  abbrev text : ℕ → List ℕ
  text = nodes_text (input_count s) (node_at s)

  node_bytes_lem : (i : ℕ) → i < node_count s → length (text i) ≤ 13 + total (λ m. length (text m)) (children (node_at s i))
  unfolding node_count
  node_bytes_lem i l =
      let self : ℕ → List ℕ = below i (digits 0) text in
      rw (node_step (input_count s) (node_at s) i)
      (omega (
        arith,
        own_bytes (input_count s) self (node_at s i) (fits.nodes i l).a (fits.nodes i l).value,
        total_same (λ m. length
            (self m)) (λ m. length (text m)) _ (λ j k. ap length (below_at i (digits 0) text j (under s h i j l k))),
      ))

-- At most 13 bytes for each node, and the newline.
pub listing_bytes_lem : (s : Script) → Encodable s → script_refusal s ≡ none → length (listing s) ≤ 13 * node_count s + 1
unfolding listing ascii root
listing_bytes_lem s fits e =
    let h : Sound s = sound s e in
    let last : root s < node_count s = omega (arith, h.within.some_node) in
    rw (length-append (term_text (input_count s) (tree s (root s))) (10 ∷ []), tree_text (input_count s) s (node_at s) (λ i l self. refl) (root s) last)
    (omega (arith, root_most s (λ i. length (text s fits h i)) h (node_bytes_lem s fits h)))

-- "no listing passes 65,536 bytes"
pub listing_bound : (s : Script) → Encodable s → script_refusal s ≡ none → length (listing s) ≤ max_bytes
unfolding max_nodes max_bytes
listing_bound s fits e = omega (arith, listing_bytes_lem s fits e, (sound s e).within.nodes)

module _ (n : Counts) (x : Tables) (lent : LentTables n.types n.inputs n.nodes x) where
  -- The listing of lent tables that 1 to 8 do not refuse has at most 65,536 bytes.
  lent_bound : tables_refusal n.types n.inputs n.nodes x ≡ none → length (tables_text n x) ≤ max_bytes
  unfolding tables_refusal tables_text
  lent_bound e = listing_bound _ (lent_encodable lent) (neither _ _ e).1

  -- So an output of as many bytes is never too short for it.
  room_enough : (out : List ℕ) → max_bytes ≤ length out → list_refusal n x out ≡ tables_refusal n.types n.inputs n.nodes x
  unfolding list_refusal room_refusal or_else refused_unless
  room_enough out room = go (tables_refusal n.types n.inputs n.nodes x) refl
    where
      go :
          (r : Option Refusal) → tables_refusal n.types n.inputs n.nodes x ≡ r →
          or_else r (room_refusal (tables_text n x) out) ≡ r
      go none e = rw (le-leb (length (tables_text n x)) (length out) (omega (arith, lent_bound e)))
      go (some f) e = refl

-- The reply of a call of `list` that is lent as many bytes, by its promise alone: 1 to 8, or the whole listing; never 21.
pub room_for_listing :
    {n : Counts} {x : Tables} {before after : List ℕ} {r : Writing} → ListsTables n x before after r → max_bytes ≤ length before →
    writing_reply r ≡ replying (tables_refusal n.types n.inputs n.nodes x) (length (tables_text n x))
room_for_listing {n} {x} {before} h room = rw (room_enough n x h.lent before room) at h.text.reply
