-- The tree of a node that fits: the node over the trees of its children, whose numbers are smaller than its own and whose heights
-- are smaller than its tree's; the same with the fields that the node's word holds. Assumes nothing.
use Prim.Native.Nat.{ℕ, suc, ◌+◌, ◌<◌}
use mathlib.Core.Path.{◌≡◌, refl, sym, ap, ap₂, ◌∙◌}
use mathlib.Core.Bool.{true, true≢false}
use mathlib.Core.List.{List, [], ◌∷◌}
use mathlib.Core.Logic.{⊎_elim}
use native.Mathlib.Omega.{arith}
use lib.IntN.{ℤ, pos}
use lib.ListN.{length, get_or}
use lib.Dec.{ltb, eqb}
use borrow.Author.Tests.{ltb-true, eq-eqb, eqb-true}
use Rattle.lambdamix.specs.declared.Use.{Use}
use Rattle.lambdamix.specs.declared.Use.TheVariants.{Nothing, Name, Binder, Child, ParameterType, Operation}
use Rattle.lambdamix.specs.Script.{Script, Node, Row, rows, row_of, blank_row, node_at, node_count, fields, if_child, child_fields, children}
use Rattle.lambdamix.specs.Structure.{member}
use Rattle.lambdamix.specs.Falling.{below}
use Rattle.lambdamix.specs.Term.{Term, cons_t, build, terms, tree_step, tree, blank_term, height, heights}
use Rattle.lambdamix.specs.Types.{type_count}
use Rattle.lambdamix.proofs.Falling.{falling_step, below_at}
use Rattle.lambdamix.proofs.Tests.{and_both, or_left, or_right, holds_or_fails}
use Rattle.script.specs.Refusals.{field_right, fields_right, node_fits}
use Rattle.script.specs.Kinds.{use_of}
use Rattle.script.specs.Words.{word_kind, word_a, word_b, word_c, Holds}
use Rattle.walks.proofs.TreeForms.{All, high_row, heights_gathered}
use Rattle.walks.proofs.Agreement.{children_fall}
use Rattle.annotation.specs.Walks.{Lent, parameter_by, parameter_type}
use Rattle.script.proofs.Sound.{Sound, sound}
use Rattle.script.proofs.TableLaws.{row_uses}

-- numbers below a node's
abbrev pub Below : ℕ → List ℕ → Type 0
Below i ms = All (λ m. m < i) ms

members_below : (i : ℕ) (ms : List ℕ) → ((m : ℕ) → member m ms ≡ true → m < i) → Below i ms
unfolding member All
members_below i [] h = tt
members_below i (m ∷ ms) h =
    (h m (or_left (member m ms) (eq-eqb m m refl)), members_below i ms (λ k e. h k (or_right (eqb m k) e)))

below_terms : (i : ℕ) (f : ℕ → Term) (ms : List ℕ) → Below i ms → terms (below i blank_term f) ms ≡ terms f ms
unfolding terms All
below_terms i f [] h = refl
below_terms i f (m ∷ ms) h = ap₂ cons_t (below_at i blank_term f m h.0) (below_terms i f ms h.1)

-- the type of a parameter, by the use that the row has for field b
use_parameter : (t n i : ℕ) (u : Use) (f : ℕ) → field_right t n i u f ≡ true → parameter_by u f < 2 + t
unfolding field_right
use_parameter t n i Nothing f e = omega arith
use_parameter t n i Name f e = omega arith
use_parameter t n i Binder f e = omega arith
use_parameter t n i Child f e = omega arith
use_parameter t n i ParameterType f e = ltb-true _ _ e
use_parameter t n i Operation f e = omega arith

row_parameter :
    (t n i : ℕ) (us : List Use) (a b c : ℕ) → fields_right t n i us (a ∷ b ∷ c ∷ []) ≡ true → parameter_by (get_or us 1 Nothing) b < 2 + t
unfolding fields_right
row_parameter t n i [] a b c e = omega arith
row_parameter t n i (u ∷ []) a b c e = omega arith
row_parameter t n i (u ∷ v ∷ us) a b c e =
    let (_, q) = and_both (field_right t n i u a) _ e in
    use_parameter t n i v b (and_both (field_right t n i v b) _ q).0

-- what the walk needs to know of node i and its row, as if nd were the node
pub record Drawn (s : Script) (i : ℕ) (r : Row) (nd : Node) : Type 0 where
  pub term : tree s i ≡ build r.step i nd (terms (tree s) (child_fields r.uses (fields nd)))
  pub high : height (tree s i) ≡ suc (heights (terms (tree s) (child_fields r.uses (fields nd))))
  pub falls : Below i (child_fields r.uses (fields nd))
  pub known : parameter_type r.uses nd < type_count s

module _ (s : Script) (ok : Sound s) (i : ℕ) (h : i < node_count s) where
  fields_right_lem : fields_right (length s.types) (length s.inputs) i (row_of (node_at s i)).uses (fields (node_at s i)) ≡ true
  unfolding node_fits
  fields_right_lem =
      let (_, q) = and_both (ltb (node_at s i).kind 13) _ (ok.nodes_fit i h) in
      (and_both (fields_right (length s.types) (length s.inputs) i (row_of (node_at s i)).uses (fields (node_at s i))) _ q).0

  pub kind_known : (node_at s i).kind < 13
  unfolding node_fits
  kind_known = ltb-true _ _ (and_both (ltb (node_at s i).kind 13) _ (ok.nodes_fit i h)).0

  below_parent : Below i (children (node_at s i))
  below_parent = members_below i _ (λ m. children_fall _ _ (node_at s) i m (ok.nodes_fit i h))

  -- a binder's parameter has a type of the script
  parameter_known : parameter_type (row_of (node_at s i)).uses (node_at s i) < type_count s
  unfolding fields type_count
  parameter_known = row_parameter _ _ _ (row_of (node_at s i)).uses _ _ _ fields_right_lem

  tree_node : tree s i ≡ build (row_of (node_at s i)).step i (node_at s i) (terms (tree s) (children (node_at s i)))
  unfolding tree tree_step
  tree_node =
      falling_step blank_term (tree_step s) i
      ∙ ap (build (row_of (node_at s i)).step i (node_at s i)) (below_terms i (tree s) _ below_parent)

  tree_height : height (tree s i) ≡ suc (heights (terms (tree s) (children (node_at s i))))
  unfolding children
  tree_height = ap height tree_node ∙ high_row i (node_at s i) (tree s) ∙ ap suc (heights_gathered (tree s) _)

  drawn : Drawn s i (row_of (node_at s i)) (node_at s i)
  unfolding children
  drawn = record { term = tree_node; high = tree_height; falls = below_parent; known = parameter_known }

-- the node with the fields of a word; those of a constant's are parts of its value, and have no use
abbrev pub word_node : ℕ → ℤ → Node
word_node w v = record { kind = word_kind w; a = word_a w; b = word_b w; c = word_c w; value = v }

-- what the word of a node tells of it
module _ {s : Script} {words ts : List ℕ} (l : Lent s words ts) {i w : ℕ} (h : i < node_count s) (e : w ≡ get_or words i 0) where
  held : Holds w (node_at s i)
  held = rw e (l.nodes.each i h)

  pub kind_below : word_kind w < 13
  kind_below = rw held.kind (kind_known s (sound s l.passes) i h)

  pub word_drawn : Drawn s i (get_or rows (word_kind w) blank_row) (word_node w (node_at s i).value)
  unfolding row_of rows child_fields if_child fields build
  word_drawn =
      let d = drawn s (sound s l.passes) i h in
      ⊎_elim
      (λ z.
      let y : word_kind w ≡ 0 = eqb-true _ _ z in
      let q : (node_at s i).kind ≡ 0 = sym held.kind ∙ y in
      let c = rw q at d in
      rw y (record { term = c.term; high = c.high; falls = c.falls; known = c.known }))
      (λ z.
      let n : (node_at s i).kind ≡ 0 → ⊥ = λ y. absurd (true≢false (sym (eq-eqb _ _ (held.kind ∙ y)) ∙ z)) in
      rw (held.kind, held.a n, held.b n, held.c n) d)
      (holds_or_fails (eqb (word_kind w) 0))

-- the use of a field in a row
pub row_use : (k j : ℕ) → use_of k j ≡ get_or (get_or rows k blank_row).uses j Nothing
unfolding row_of use_of
row_use k j = ap (λ (us : List Use). get_or us j Nothing) (sym (row_uses (record { kind = k; a = 0; b = 0; c = 0; value = pos 0 })))
