-- The nodes of the rows' script by their numbers: six for each row before the last, two for the last, then the ifs, the last row's first. Assumes nothing.
use Prim.Native.Nat.{ℕ, zero, suc, ◌+◌, ◌-◌, ◌*◌, ◌/◌, ◌%◌, ◌≤◌, ◌<◌}
use mathlib.Core.Path.{◌≡◌, refl, sym, ap, ap₂, ◌∙◌}
use mathlib.Core.List.{List, [], ◌∷◌, ◌++◌}
use native.Mathlib.Numerals.{add-one}
use native.Mathlib.Omega.{arith}
use mathlib.Core.Logic.{⊎_elim}
use lib.Dec.{ltb}
use borrow.Author.Tests.{ltb-true, ltb-false}
use lib.IntN.{ℤ, pos}
use lib.ListN.{length, get_or, length-append, get_or-append}
use lib.Seq.{get_or-append-add}
use Rattle.lambdamix.specs.Script.{Node, blank_node, node_at}
use Rattle.lambdamix.specs.Code.{node, form_node, operator_number, size, last_node, last_nodes, nodes_from, written}
use Rattle.lambdamix.proofs.Tests.{holds_or_fails}
use Rattle.lambdamix.proofs.WrittenTree.{nodes_size, top_last}
use Rattle.bands.specs.Rows.{Band, band_at}
use Rattle.bands.specs.BandScript.{row_part, band_code, band_script, band_nodes}
use Rattle.bands.specs.Calls.{Columns, row_in, rows_in}
use Rattle.bands.specs.Steps.{part_node, PartAt}
use Rattle.bands.proofs.RowTests.{rows_length, band_at_lem}

-- how many nodes a part has
pub part_size : (r : Band) (rows : List Band) → size (row_part r rows) ≡ 7 * length rows + 2
unfolding row_part size
part_size r [] = refl
part_size r (q ∷ rows) = omega (arith, part_size q rows)

nodes_length : (s : ℕ) (r : Band) (rows : List Band) → length (nodes_from s (row_part r rows)) ≡ 7 * length rows + 2
nodes_length s r rows = nodes_size (row_part r rows) s ∙ part_size r rows

-- behind the six nodes of a row before the last stand those of the next row's part
abbrev sixth : ℕ → ℕ
sixth s = suc (suc (suc (suc (suc (suc s)))))

behind :
    (r q : Band) (rows : List Band) (s j n : ℕ) → n ≡ 6 + j → j < 7 * length rows + 2 →
    get_or (nodes_from s (row_part r (q ∷ rows))) n blank_node ≡ get_or (nodes_from (s + 6) (row_part q rows)) j blank_node
unfolding row_part nodes_from last_node
behind r q rows s j n e h =
    let ns = nodes_from (sixth s) (row_part q rows) in
    let m : n ≡ sixth j = omega arith in
    let l : j < length ns = omega (arith, nodes_length (sixth s) q rows) in
    ap (λ (n : ℕ). get_or (nodes_from s (row_part r (q ∷ rows))) n blank_node) m
    ∙ get_or-append (ns ++ []) _ blank_node j (simp length-append (omega arith))
    ∙ get_or-append ns [] blank_node j l
    ∙ ap (λ (t : ℕ). get_or (nodes_from t (row_part q rows)) j blank_node) (omega arith)

-- ---- a row before the last

row_node_lem :
    (r : Band) (rows : List Band) (s k p : ℕ) → k < length rows → p < 6 →
    get_or (nodes_from s (row_part r rows)) (6 * k + p) blank_node
    ≡ part_node p (s + (6 * k + p)) (band_at rows k).low (band_at (r ∷ rows) k).grade
unfolding row_part nodes_from part_node band_at form_node last_node last_nodes operator_number
row_node_lem r [] s k p h l = let z : ⊥ = omega arith in absurd z
row_node_lem r (q ∷ rows) s zero zero h l = refl
row_node_lem r (q ∷ rows) s zero (suc zero) h l = refl
row_node_lem r (q ∷ rows) s zero (suc (suc zero)) h l = ap (λ (n : ℕ). node 2 n 0 0 (pos 0)) (omega arith)
row_node_lem r (q ∷ rows) s zero (suc (suc (suc zero))) h l = ap₂ (λ (n m : ℕ). node 12 n m 5 (pos 0)) (omega arith) (omega arith)
row_node_lem r (q ∷ rows) s zero (suc (suc (suc (suc zero)))) h l = refl
row_node_lem r (q ∷ rows) s zero (suc (suc (suc (suc (suc zero))))) h l = ap (λ (n : ℕ). node 2 n 0 0 (pos 0)) (omega arith)
row_node_lem r (q ∷ rows) s zero (suc (suc (suc (suc (suc (suc p)))))) h l = let z : ⊥ = omega arith in absurd z
row_node_lem r (q ∷ rows) s (suc k) p h l =
    behind r q rows s (6 * k + p) (6 * suc k + p) (omega arith) (omega arith)
    ∙ row_node_lem q rows (s + 6) k p (omega arith) l
    ∙ ap (λ (n : ℕ). part_node p n (band_at rows k).low (band_at (q ∷ rows) k).grade) (omega arith)

-- ---- the last row

last_node_lem :
    (r : Band) (rows : List Band) (s j : ℕ) → j < 2 →
    get_or (nodes_from s (row_part r rows)) (6 * length rows + j) blank_node
    ≡ part_node (j + 4) (s + (6 * length rows + j)) (pos 0) (band_at (r ∷ rows) (length rows)).grade
unfolding row_part nodes_from part_node band_at
last_node_lem r [] s zero l = refl
last_node_lem r [] s (suc zero) l = ap (λ (n : ℕ). node 2 n 0 0 (pos 0)) (omega arith)
last_node_lem r [] s (suc (suc j)) l = let z : ⊥ = omega arith in absurd z
last_node_lem r (q ∷ rows) s j l =
    behind r q rows s (6 * length rows + j) (6 * length (q ∷ rows) + j) (omega arith) (omega arith)
    ∙ last_node_lem q rows (s + 6) j l
    ∙ ap (λ (n : ℕ). part_node (j + 4) n (pos 0) (band_at (q ∷ rows) (length rows)).grade) (omega arith)

-- ---- the ifs

choice_node : {a b c d e f : ℕ} → a ≡ d → b ≡ e → c ≡ f → node 11 a b c (pos 0) ≡ node 11 d e f (pos 0)
choice_node p q r = λ i. node 11 (p i) (q i) (r i) (pos 0)

if_node :
    (r : Band) (rows : List Band) (s k : ℕ) → k < length rows →
    get_or (nodes_from s (row_part r rows)) (7 * length rows + 1 - k) blank_node
    ≡ node 11 (s + (6 * k + 3)) (s + (6 * k + 5)) (s + (7 * length rows - k)) (pos 0)
unfolding row_part nodes_from form_node last_node last_nodes
if_node r [] s k l = let z : ⊥ = omega arith in absurd z
if_node r (q ∷ rows) s zero l =
    let ns = nodes_from (sixth s) (row_part q rows) in
    let m : length (ns ++ []) ≡ 7 * length rows + 2 = simp length-append (omega (arith, nodes_length (sixth s) q rows)) in
    let e : 7 * length (q ∷ rows) + 1 - 0 ≡ sixth (length (ns ++ []) + 0) = omega (arith, m) in
    ap (λ (n : ℕ). get_or (nodes_from s (row_part r (q ∷ rows))) n blank_node) e
    ∙ get_or-append-add (ns ++ []) _ 0 blank_node
    ∙ choice_node (omega arith) (omega arith) (omega (arith, top_last (row_part q rows) (sixth s), nodes_length (sixth s) q rows))
if_node r (q ∷ rows) s (suc k) l =
    behind r q rows s (7 * length rows + 1 - k) (7 * length (q ∷ rows) + 1 - suc k) (omega arith) (omega arith)
    ∙ if_node q rows (s + 6) k (omega arith)
    ∙ choice_node (omega arith) (omega arith) (omega arith)

-- ---- node i of the script

pub before_last :
    (rows : List Band) (i : ℕ) → i < 6 * (length rows - 1) →
    part_node (i % 6) i (band_at rows (i / 6 + 1)).low (band_at rows (i / 6)).grade ≡ node_at (band_script rows) i
unfolding band_script band_code written node_at band_at
before_last [] i h = let z : ⊥ = omega arith in absurd z
before_last (r ∷ rows) i h =
    let e : 6 * (i / 6) + i % 6 ≡ i = omega arith in
    let d : 0 + i ≡ i = omega arith in
    rw (add-one (i / 6)) (sym (rw (e, d) at (row_node_lem r rows 0 (i / 6) (i % 6) (omega arith) (omega arith))))

pub of_last :
    (rows : List Band) (i : ℕ) → 1 ≤ length rows → 6 * (length rows - 1) ≤ i → i < 6 * (length rows - 1) + 2 →
    part_node (i - 6 * (length rows - 1) + 4) i (pos 0) (band_at rows (length rows - 1)).grade ≡ node_at (band_script rows) i
unfolding band_script band_code written node_at
of_last [] i n h l = let z : ⊥ = omega arith in absurd z
of_last (r ∷ rows) i n h l =
    let m : length (r ∷ rows) - 1 ≡ length rows = omega arith in
    let e : 6 * length rows + (i - 6 * length rows) ≡ i = omega arith in
    let d : 0 + i ≡ i = omega arith in
    rw m (sym (rw (e, d) at (last_node_lem r rows 0 (i - 6 * length rows) (omega arith))))

pub if_of :
    (rows : List Band) (i k : ℕ) → 6 * (length rows - 1) + 2 ≤ i → i < band_nodes (length rows) → k ≡ 7 * (length rows - 1) + 1 - i →
    node 11 (6 * k + 3) (6 * k + 5) (i - 1) (pos 0) ≡ node_at (band_script rows) i
unfolding band_script band_code written node_at band_nodes
if_of [] i k h l e = let z : ⊥ = omega arith in absurd z
if_of (r ∷ rows) i k h l e =
    let d : 7 * length rows + 1 - k ≡ i = omega arith in
    choice_node (omega arith) (omega arith) (omega arith) ∙ sym (rw d at (if_node r rows 0 k (omega arith)))

-- ---- the same by columns, as the code finds it

module _ (m : ℕ) (x : Columns) where
  low_at : (k : ℕ) → k < m → get_or x.low k (pos 0) ≡ (band_at (rows_in m x) k).low
  unfolding row_in
  low_at k h = sym (ap (λ (r : Band). r.low) (band_at_lem m x k h))

  grade_at : (k : ℕ) → k < m → get_or x.grade k (pos 0) ≡ (band_at (rows_in m x) k).grade
  unfolding row_in
  grade_at k h = sym (ap (λ (r : Band). r.grade) (band_at_lem m x k h))

  module _ {i : ℕ} {d : Node} where
    pub fore_told :
        {l g : ℤ} → d ≡ part_node (i % 6) i l g → i < 6 * (m - 1) → l ≡ get_or x.low (i / 6 + 1) (pos 0) →
        g ≡ get_or x.grade (i / 6) (pos 0) → d ≡ node_at (band_script (rows_in m x)) i
    fore_told e h p q =
        let b : i < 6 * (length (rows_in m x) - 1) = omega (arith, rows_length m x) in
        e
        ∙ ap₂ (part_node (i % 6) i) (p ∙ low_at (i / 6 + 1) (omega arith)) (q ∙ grade_at (i / 6) (omega arith))
        ∙ before_last (rows_in m x) i b

    pub last_told :
        {f : ℕ} {g : ℤ} → d ≡ part_node (i - f + 4) i (pos 0) g → f ≡ 6 * (m - 1) → 1 ≤ m → f ≤ i → i < f + 2 →
        g ≡ get_or x.grade (m - 1) (pos 0) → d ≡ node_at (band_script (rows_in m x)) i
    last_told e w a h l q =
        let n = rows_length m x in
        let t : 6 * (length (rows_in m x) - 1) ≡ 6 * (m - 1) = omega (arith, n) in
        let u : length (rows_in m x) - 1 ≡ m - 1 = omega (arith, n) in
        e
        ∙ ap₂ (λ (f : ℕ) (g : ℤ). part_node (i - f + 4) i (pos 0) g) w (q ∙ grade_at (m - 1) (omega arith))
        ∙ (rw (t, u) at (of_last (rows_in m x) i (omega (arith, n)) (omega (arith, n)) (omega (arith, n))))

    pub if_told :
        {f : ℕ} → d ≡ node 11 (f + 3) (f + 5) (i - 1) (pos 0) → f ≡ 6 * (7 * (m - 1) + 1 - i) → 6 * (m - 1) + 2 ≤ i → i < band_nodes m →
        d ≡ node_at (band_script (rows_in m x)) i
    if_told e q h l =
        let n = rows_length m x in
        e
        ∙ choice_node (ap (λ (f : ℕ). f + 3) q) (ap (λ (f : ℕ). f + 5) q) refl
        ∙ if_of (rows_in m x) i (7 * (m - 1) + 1 - i) (omega (arith, n)) (rw n l) (omega (arith, n))

-- ---- the parts of a row, each by its number

module _ (p i : ℕ) (l g : ℤ) {d : Node} where
  pub input_part : p ≡ 0 → d ≡ node 1 0 0 0 (pos 0) → d ≡ part_node p i l g
  unfolding part_node
  input_part e h = h ∙ rw e

  pub low_part : p ≡ 1 → d ≡ node 0 0 0 0 l → d ≡ part_node p i l g
  unfolding part_node
  low_part e h = h ∙ rw e

  pub less_part : p ≡ 3 → d ≡ node 12 (i - 3) (i - 1) 5 (pos 0) → d ≡ part_node p i l g
  unfolding part_node
  less_part e h = h ∙ rw e

  pub grade_part : p ≡ 4 → d ≡ node 0 0 0 0 g → d ≡ part_node p i l g
  unfolding part_node
  grade_part e h = h ∙ rw e

-- parts 2 and 5, and any that is none
pub lift_part :
    (p i : ℕ) (l g : ℤ) {d : Node} → ¬ (p ≡ 0) → ¬ (p ≡ 1) → ¬ (p ≡ 3) → ¬ (p ≡ 4) → d ≡ node 2 (i - 1) 0 0 (pos 0) → d ≡ part_node p i l g
unfolding part_node
lift_part zero i l g a b c e h = absurd (a refl)
lift_part (suc zero) i l g a b c e h = absurd (b refl)
lift_part (suc (suc zero)) i l g a b c e h = h
lift_part (suc (suc (suc zero))) i l g a b c e h = absurd (c refl)
lift_part (suc (suc (suc (suc zero)))) i l g a b c e h = absurd (e refl)
lift_part (suc (suc (suc (suc (suc p))))) i l g a b c e h = h

-- a lift has a child
pub lift_deep : {p i : ℕ} → PartAt p i → ¬ (p ≡ 0) → ¬ (p ≡ 1) → ¬ (p ≡ 4) → 1 ≤ i
lift_deep {p} {i} h a b e =
    ⊎_elim (λ t. omega (arith, h.before (ltb-true p 4 t), a)) (λ t. omega (arith, h.last, ltb-false p 4 t, e)) (holds_or_fails (ltb p 4))
