-- Every node of a script is reached from the root exactly once, if children stand below their parents (refusal 5) and each node
-- but the root is the child of exactly one place (refusal 6). A node stands in a tree as often as its one parent does, and once
-- more where the tree begins with it. Assumes nothing.
use Prim.Native.Nat.{ℕ, zero, suc, ◌+◌, ◌≤◌, ◌<◌}
use mathlib.Core.Path.{◌≡◌, refl, sym, ap, ◌∙◌}
use mathlib.Core.Bool.{Bool, true, false}
use mathlib.Core.List.{List, [], ◌∷◌, ◌++◌}
use mathlib.Core.Option.{none}
use mathlib.Core.Logic.{⊎_elim}
use native.Mathlib.Omega.{arith}
use native.Mathlib.Nat.{eq-or-lt_of_le}
use lib.ListN.{get_or, length}
use lib.Dec.{eqb}
use borrow.Author.Tests.{eqb-true, eqb-false, eq-eqb, ne_eqb}
use Rattle.lambdamix.specs.Falling.{below}
use Rattle.lambdamix.specs.Script.{Script, Node, Row, rows, row_of, blank_row, fields, if_child, child_fields, children, blank_node, node_at, node_count, root}
use Rattle.lambdamix.specs.Term.{Term, blank_term, child_at, build, terms, tree_step, tree}
use Rattle.lambdamix.specs.Structure.{one_if, occurrences, uses, used_once, use_refusal, structure_refusal, member}
use Rattle.lambdamix.proofs.Tests.{or_left, or_right}
use Rattle.lambdamix.proofs.Falling.{below_at, falling_step}
use Rattle.lambdamix.proofs.Structure.{occurs_member}
use Rattle.script.specs.File.{script_in}
use Rattle.script.specs.Refusals.{content_refusal, script_refusal, body_refusal, file_refusal}
use Rattle.walks.specs.Walks.{gathered}
use Rattle.tables.specs.Reached.{walked, EachReachedOnce}
use Rattle.script.proofs.RefusalLaws.{neither, no_earlier, no_node, passes}
use Rattle.tables.proofs.ScriptLaws.{nodes_right}
use Rattle.walks.proofs.TreeForms.{All, at_all}
use Rattle.walks.proofs.Agreement.{children_fall}

-- ---- counting in lists

occurrences_append : (j : ℕ) (xs ys : List ℕ) → occurrences j (xs ++ ys) ≡ occurrences j xs + occurrences j ys
unfolding occurrences
occurrences_append j [] ys = omega arith
occurrences_append j (x ∷ xs) ys = omega (arith, occurrences_append j xs ys)

-- the sum of some numbers' answers
abbrev sum : (ℕ → ℕ) → List ℕ → ℕ
sum = gathered ◌+◌ 0

sum_same : (f g : ℕ → ℕ) (ms : List ℕ) → ((m : ℕ) → member m ms ≡ true → f m ≡ g m) → sum f ms ≡ sum g ms
unfolding gathered member
sum_same f g [] h = refl
sum_same f g (m ∷ ms) h =
    rw (h m (or_left _ (eq-eqb m m refl)), sum_same f g ms (λ k e. h k (or_right (eqb m k) e)))

sum_occurrences : (j : ℕ) (f : ℕ → ℕ) (ms : List ℕ) → sum (λ m. one_if (eqb m j) + f m) ms ≡ occurrences j ms + sum f ms
unfolding gathered occurrences
sum_occurrences j f [] = refl
sum_occurrences j f (m ∷ ms) = omega (arith, sum_occurrences j f ms)

sum_none : (ms : List ℕ) → sum (λ m. 0) ms ≡ 0
unfolding gathered
sum_none [] = refl
sum_none (m ∷ ms) = omega (arith, sum_none ms)

one_if_not : (i j : ℕ) → (i ≡ j → ⊥) → one_if (eqb i j) ≡ 0
unfolding one_if
one_if_not i j h = rw (ne_eqb i j h)

one_if_same : (i j : ℕ) → i ≡ j → one_if (eqb i j) ≡ 1
unfolding one_if
one_if_same i j h = rw (eq-eqb i j h)

one_if_next : (i j : ℕ) → one_if (eqb (suc i) (suc j)) ≡ one_if (eqb i j)
one_if_next i j = go (eqb i j) refl
  where
    go : (b : Bool) → eqb i j ≡ b → one_if (eqb (suc i) (suc j)) ≡ one_if b
    go true e = ap one_if (eq-eqb (suc i) (suc j) (ap suc (eqb-true i j e)))
    go false e = ap one_if (ne_eqb (suc i) (suc j) (λ q. eqb-false i j e (omega arith)))

-- ---- the one place of a node

not_used : (nds : List Node) (j : ℕ) → uses nds j ≡ 0 → (i : ℕ) → i < length nds → occurrences j (children (get_or nds i blank_node)) ≡ 0
unfolding uses
not_used [] j e i h = let z : ⊥ = omega arith in absurd z
not_used (nd ∷ nds) j e zero h = omega arith
not_used (nd ∷ nds) j e (suc i) h = not_used nds j (omega arith) i (omega arith)

-- p is the one node of some that has j as a child, at one field
pub record Parent (nds : List Node) (j p : ℕ) : Type 0 where
  pub is_node : p < length nds
  pub alone : (i : ℕ) → i < length nds → occurrences j (children (get_or nds i blank_node)) ≡ one_if (eqb i p)

parent : (nds : List Node) (j : ℕ) → uses nds j ≡ 1 → (p : ℕ) × Parent nds j p
unfolding uses
parent [] j e = let z : ⊥ = omega arith in absurd z
parent (nd ∷ nds) j e = go (occurrences j (children nd)) refl (parent nds j)
  where
    go : (k : ℕ) → occurrences j (children nd) ≡ k → (uses nds j ≡ 1 → (p : ℕ) × Parent nds j p) → (p : ℕ) × Parent (nd ∷ nds) j p
    go zero q f =
        let u = f (omega arith) in
        (suc u.0, record { is_node = omega (arith, u.1.is_node); alone = later u.0 u.1 })
      where
        later : (p : ℕ) → Parent nds j p → (i : ℕ) → i < length (nd ∷ nds) → occurrences j (children (get_or (nd ∷ nds) i blank_node)) ≡ one_if (eqb i (suc p))
        later p u zero h = q ∙ sym (one_if_not 0 (suc p) (λ e. omega arith))
        later p u (suc i) h = u.alone i (omega arith) ∙ sym (one_if_next i p)
    go (suc k) q f = (0, record { is_node = omega arith; alone = first })
      where
        first : (i : ℕ) → i < length (nd ∷ nds) → occurrences j (children (get_or (nd ∷ nds) i blank_node)) ≡ one_if (eqb i 0)
        first zero h = let r : occurrences j (children nd) ≡ 1 = omega arith in r ∙ sym (one_if_same 0 0 refl)
        first (suc i) h = not_used nds j (omega arith) i (omega arith) ∙ sym (one_if_not (suc i) 0 (λ e. omega arith))

-- ---- counting in trees

-- a row builds a term in which its own node stands before the nodes of the children that it uses
abbrev WalkedRow : ℕ → ℕ → Node → (ℕ → Term) → Row → Type 0
WalkedRow j i nd f r =
    occurrences j (walked (build r.step i nd (terms f (child_fields r.uses (fields nd)))))
    ≡ one_if (eqb i j) + sum (λ m. occurrences j (walked (f m))) (child_fields r.uses (fields nd))

walked_rows : (j i : ℕ) (nd : Node) (f : ℕ → Term) → All (WalkedRow j i nd f) rows
unfolding All rows build terms child_at child_fields if_child fields walked occurrences gathered
walked_rows j i nd f = simp occurrences_append (omega arith)

walked_row : (j i : ℕ) (nd : Node) (f : ℕ → Term) → WalkedRow j i nd f (row_of nd)
unfolding row_of build terms child_fields walked occurrences gathered
walked_row j i nd f = at_all (WalkedRow j i nd f) blank_row rows refl (walked_rows j i nd f) nd.kind

-- how often j stands in the tree of r
abbrev times : Script → ℕ → ℕ → ℕ
times s j r = occurrences j (walked (tree s r))

module _ (s : Script) (falls : (i m : ℕ) → i < node_count s → member m (children (node_at s i)) ≡ true → m < i) where
  times_step : (j r : ℕ) → r < node_count s → times s j r ≡ one_if (eqb r j) + sum (times s j) (children (node_at s r))
  unfolding tree tree_step children
  times_step j r l =
      ap (λ t. occurrences j (walked t)) (falling_step blank_term (tree_step s) r)
      ∙ walked_row j r (node_at s r) (below r blank_term (tree s))
      ∙ ap (λ k. one_if (eqb r j) + k) (sum_same _ _ (children (node_at s r)) (λ m e. ap (λ t. occurrences j (walked t)) (below_at r
      blank_term (tree s) m (falls r m l e))))

  -- a tree has no node above its own
  none_above : (g j r : ℕ) → r < g → r < node_count s → r < j → times s j r ≡ 0
  none_above zero j r h l k = let z : ⊥ = omega arith in absurd z
  none_above (suc g) j r h l k =
      omega (
        arith,
        times_step j r l,
        one_if_not r j (λ e. omega arith),
        sum_same (times s j) (λ m. 0) (children (node_at s r)) (λ m e. let d = falls r m l e in none_above g j m (omega arith) (omega arith) (omega arith)),
        sum_none (children (node_at s r)),
      )

  -- a node stands in a tree as often as its parent, and once more where the tree begins with it
  as_often : (j p : ℕ) → Parent s.nodes j p → (g r : ℕ) → r < g → r < node_count s → times s j r ≡ one_if (eqb r j) + times s p r
  unfolding node_at node_count
  as_often j p u zero r h l = let z : ⊥ = omega arith in absurd z
  as_often j p u (suc g) r h l =
      omega (
        arith,
        times_step j r l,
        times_step p r l,
        u.alone r l,
        sum_same (times s j) (λ m. one_if (eqb m j) + times s p m) (children (node_at s r))
            (λ m e. let d = falls r m l e in as_often j p u g m (omega arith) (omega arith)),
        sum_occurrences j (times s p) (children (node_at s r)),
      )

  -- the root stands in its own tree once, and any other node as often as its parent, whose number is higher
  reached : ((j : ℕ) → j < root s → uses s.nodes j ≡ 1) → (g j : ℕ) → j < node_count s → node_count s ≤ j + g → times s j (root s) ≡ 1
  unfolding root node_count node_at
  reached once zero j h l = let z : ⊥ = omega arith in absurd z
  reached once (suc g) j h l = ⊎_elim own (other (reached once g)) (eq-or-lt_of_le (omega arith))
    where
      own : j ≡ root s → times s j (root s) ≡ 1
      own e =
          omega (
            arith,
            times_step j (root s) (omega arith),
            one_if_same (root s) j (sym e),
            sum_same (times s j) (λ m. 0) (children (node_at s (root s)))
                (λ m q. let d = falls (root s) m (omega arith) q in none_above (suc m) j m (omega arith) (omega arith) (omega arith)),
            sum_none (children (node_at s (root s))),
          )

      other : ((p : ℕ) → p < node_count s → node_count s ≤ p + g → times s p (root s) ≡ 1) → j < root s → times s j (root s) ≡ 1
      other higher k =
          let u = parent s.nodes j (once j k) in
          let q : 0 < occurrences j (children (node_at s u.0)) = omega (arith, u.1.alone u.0 u.1.is_node, one_if_same u.0 u.0 refl) in
          let d = falls u.0 j u.1.is_node (occurs_member j (children (node_at s u.0)) q) in
          omega (
            arith,
            as_often j u.0 u.1 (suc (root s)) (root s) (omega arith) (omega arith),
            one_if_not (root s) j (λ e. omega arith),
            higher u.0 u.1.is_node (omega arith),
          )

-- Every node of a script is reached from the root exactly once, if neither 5 nor 6 is refused.
reached_once : (s : Script) → content_refusal s ≡ none → use_refusal s ≡ none → EachReachedOnce s
unfolding use_refusal used_once content_refusal node_count
reached_once s e f =
    record { once = λ i h. reached s falls once (node_count s) i h (omega arith) }
  where
    falls : (i m : ℕ) → i < node_count s → member m (children (node_at s i)) ≡ true → m < i
    falls i m l c = children_fall (length s.types) (length s.inputs) (node_at s) i m (nodes_right _ _ _ _ _ (node_at s) e i l) c

    once : (j : ℕ) → j < root s → uses s.nodes j ≡ 1
    once j l = eqb-true _ 1 (passes (used_once s) (root s) (no_node 6 _ f) j l)

-- Of the script in a file of which none of refusals 1 to 8 holds, every node is reached from the root exactly once.
pub file_each_reached_once : (bs : List ℕ) → file_refusal bs ≡ none → EachReachedOnce (script_in bs)
unfolding file_refusal body_refusal structure_refusal
file_each_reached_once bs e =
    let f = neither _ _ (neither _ _ e).1 in
    reached_once (script_in bs) (no_earlier _ _ f.0).1 (neither _ _ f.1).0

-- Of a script of which none of refusals 3 to 8 holds, every node is reached from the root exactly once.
pub each_reached_once : (s : Script) → script_refusal s ≡ none → EachReachedOnce s
unfolding script_refusal structure_refusal
each_reached_once s e =
    let f = neither _ _ (neither _ _ e).1 in
    reached_once s f.0 (neither _ _ f.1).0
