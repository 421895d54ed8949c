-- The tree of a written script is its code's tree, and its root is the code's last node: paper 01, "Making", "Finished code
-- is written as a script". Shown for code whose forms have as many children as they take. Assumes nothing.
use Prim.Native.Nat.{ℕ, suc, ◌+◌, ◌≤◌, ◌<◌}
use mathlib.Core.Path.{◌≡◌, refl, ap, ap₂, ◌∙◌}
use mathlib.Core.List.{List, [], ◌∷◌, ◌++◌}
use native.Mathlib.Omega.{arith}
use lib.IntN.{ℤ}
use lib.ListN.{length, get_or, length-append, get_or-append}
use lib.Seq.{get_or-append-add}
use Rattle.lambdamix.specs.declared.Operator.{Operator}
use Rattle.lambdamix.specs.declared.Operator.TheVariants.{Add, Subtract, Multiply, Divide, Equal, Less}
use Rattle.lambdamix.specs.Falling.{below}
use Rattle.lambdamix.specs.Script.{Script, Node, blank_node, node_at, node_count, root, rows, row_of, fields, if_child, child_fields, children}
use Rattle.lambdamix.specs.Term.{Term, Terms, nil_t, cons_t, Former, applying, fixing, choosing, operating, arity, const, var, lifted, dlam, dyn}
use Rattle.lambdamix.specs.Term.{blank_term, child_at, operator_of, build, terms, tree_step, tree}
use Rattle.lambdamix.specs.Code.{Code, Codes, lit, ref, fn, form, nil_c, cons_c, size, sizes, operator_number, form_node}
use Rattle.lambdamix.specs.Code.{last_node, number_after, last_nodes, nodes_from}
use Rattle.lambdamix.specs.Code.{all_nodes_from, written}
use Rattle.lambdamix.proofs.Falling.{falling_step, below_at}

-- The tree that a piece of code stands for where its first node is k.
unfoldable mutual
  pub written_term : ℕ → Code → Term
  written_term k (lit z) = lifted (suc k) (const k z)
  written_term k (ref x) = var k x
  written_term k (fn x c) = dlam (suc (last_node k c)) x (written_term k c)
  written_term k (form f cs) = dyn (number_after k cs) f (written_terms k cs)

  pub written_terms : ℕ → Codes → Terms
  written_terms k nil_c = nil_t
  written_terms k (cons_c c cs) = cons_t (written_term k c) (written_terms (suc (last_node k c)) cs)

-- every form has as many children as it takes
mutual
  pub data WellFormed : Code → Type 0 where
    formed_lit : {z : ℤ} → WellFormed (lit z)
    formed_ref : {x : ℕ} → WellFormed (ref x)
    formed_fn : {x : ℕ} {c : Code} → WellFormed c → WellFormed (fn x c)
    formed_form : {f : Former} {cs : Codes} → AllWellFormed cs (arity f) → WellFormed (form f cs)

  -- this many pieces
  pub data AllWellFormed : Codes → ℕ → Type 0 where
    formed_nil : AllWellFormed nil_c 0
    formed_cons : {c : Code} {cs : Codes} {n : ℕ} → WellFormed c → AllWellFormed cs n → AllWellFormed (cons_c c cs) (suc n)

-- A piece has `size` nodes.
mutual
  unfolding size nodes_from

  pub nodes_size : (c : Code) (k : ℕ) → length (nodes_from k c) ≡ size c
  nodes_size (lit z) k = refl
  nodes_size (ref x) k = refl
  nodes_size (fn x c) k = simp length-append (omega (arith, nodes_size c k))
  nodes_size (form f cs) k = simp length-append (omega (arith, all_nodes_size cs k))

  all_nodes_size : (cs : Codes) (k : ℕ) → length (all_nodes_from k cs) ≡ sizes cs
  all_nodes_size nil_c k = refl
  all_nodes_size (cons_c c cs) k = simp length-append (omega (arith, nodes_size c k, all_nodes_size cs (suc (last_node k c))))

-- `top` is the last of a piece's numbers, and `after` the first behind several pieces.
mutual
  unfolding last_node nodes_from

  pub top_last : (c : Code) (k : ℕ) → suc (last_node k c) ≡ k + length (nodes_from k c)
  top_last (lit z) k = omega arith
  top_last (ref x) k = omega arith
  top_last (fn x c) k = simp length-append (omega (arith, top_last c k))
  top_last (form f cs) k = simp length-append (omega (arith, after_last cs k))

  pub after_last : (cs : Codes) (k : ℕ) → number_after k cs ≡ k + length (all_nodes_from k cs)
  after_last nil_c k = omega arith
  after_last (cons_c c cs) k = simp length-append (omega (arith, top_last c k, after_last cs (suc (last_node k c))))

-- the number that an operator is written as stands for it
pub operator_read : (o : Operator) → operator_of (operator_number o) ≡ o
unfolding operator_of operator_number
operator_read Add = refl
operator_read Subtract = refl
operator_read Multiply = refl
operator_read Divide = refl
operator_read Equal = refl
operator_read Less = refl

-- Kinds 9 to 12: the table's row of a form's node builds that form.
form_builds :
    (f : Former) (is : List ℕ) (i : ℕ) (ts : Terms) → build (row_of (form_node f is)).step i (form_node f is) ts ≡ dyn i f ts
unfolding build row_of rows form_node
form_builds applying is i ts = refl
form_builds fixing is i ts = refl
form_builds choosing is i ts = refl
form_builds (operating o) is i ts = ap (λ o'. dyn i (operating o') ts) (operator_read o)

-- Kinds 9 to 12: the children of a form's node are its pieces' last nodes.
pub form_children :
    {cs : Codes} (f : Former) (k : ℕ) → AllWellFormed cs (arity f) → children (form_node f (last_nodes k cs)) ≡ last_nodes k cs
unfolding arity children child_fields if_child fields row_of rows form_node last_nodes
form_children applying k (formed_cons c (formed_cons d formed_nil)) = refl
form_children fixing k (formed_cons c formed_nil) = refl
form_children choosing k (formed_cons c (formed_cons d (formed_cons e formed_nil))) = refl
form_children (operating o) k (formed_cons c (formed_cons d formed_nil)) = refl

-- the script's table holds these nodes from k on
abbrev pub Holds : Script → ℕ → List Node → Type 0
Holds s k nds = (i j : ℕ) → i ≡ k + j → j < length nds → node_at s i ≡ get_or nds j blank_node

module _ (s : Script) where
  pub holds_left : (k : ℕ) (p q : List Node) → Holds s k (p ++ q) → Holds s k p
  holds_left k p q h i j e l = h i j e (simp length-append (omega arith)) ∙ get_or-append p q blank_node j l

  pub holds_right : (k m : ℕ) (p q : List Node) → m ≡ k + length p → Holds s k (p ++ q) → Holds s m q
  holds_right k m p q e h i j d l =
      h i (length p + j) (omega arith) (simp length-append (omega arith)) ∙ get_or-append-add p q j blank_node

  holds_last : (k m : ℕ) (p : List Node) (nd : Node) → m ≡ k + length p → Holds s k (p ++ (nd ∷ [])) → node_at s m ≡ nd
  holds_last k m p nd e h = holds_right k m p (nd ∷ []) e h m 0 (omega arith) (omega arith)

  -- one step of the tree
  pub tree_at :
      (i : ℕ) (nd : Node) → node_at s i ≡ nd →
      tree s i ≡ build (row_of nd).step i nd (terms (below i blank_term (tree s)) (children nd))
  unfolding tree tree_step
  tree_at i nd e = falling_step blank_term (tree_step s) i ∙ rw e

  -- At the last node of a piece that a table holds stands the piece's tree.
  mutual
    unfolding written_term last_node last_nodes nodes_from build row_of rows children child_fields if_child fields terms child_at

    pub tree_of : {c : Code} (k : ℕ) → WellFormed c → Holds s k (nodes_from k c) → tree s (last_node k c) ≡ written_term k c
    tree_of k formed_lit h =
        let child = below_at (suc k) blank_term (tree s) k (omega arith) ∙ tree_at k _ (h k 0 (omega arith) (omega arith)) in
        tree_at (suc k) _ (h (suc k) 1 (omega arith) (omega arith)) ∙ ap (lifted (suc k)) child
    tree_of k formed_ref h = tree_at k _ (h k 0 (omega arith) (omega arith))
    tree_of k (formed_fn {x} {c} w) h =
        let m = suc (last_node k c) in
        let child = below_at m blank_term (tree s) (last_node k c) (omega arith) ∙ tree_of k w (holds_left k (nodes_from k c) _ h) in
        tree_at m _ (holds_last k m (nodes_from k c) _ (top_last c k) h) ∙ ap (dlam m x) child
    tree_of k (formed_form {f} {cs} ws) h =
        let m = number_after k cs in
        tree_at m _ (holds_last k m (all_nodes_from k cs) _ (after_last cs k) h)
        ∙ form_builds f (last_nodes k cs) m _
        ∙ ap (dyn m f) (rw (form_children f k ws) (trees_of m k ws (omega arith) (holds_left k (all_nodes_from k cs) _ h)))

    trees_of :
        {cs : Codes} {n : ℕ} (m k : ℕ) → AllWellFormed cs n → number_after k cs ≤ m → Holds s k (all_nodes_from k cs) →
        terms (below m blank_term (tree s)) (last_nodes k cs) ≡ written_terms k cs
    trees_of m k formed_nil l h = refl
    trees_of m k (formed_cons {c} {cs} w ws) l h =
        let j = suc (last_node k c) in
        let guarded = below_at m blank_term (tree s) (last_node k c) (omega (arith, after_last cs j)) in
        ap₂ cons_t (guarded ∙ tree_of k w (holds_left k (nodes_from k c) _ h))
        (trees_of m j ws l (holds_right k j (nodes_from k c) _ (top_last c k) h))

pub written_holds : (s : Script) (c : Code) → Holds (written s c) 0 (nodes_from 0 c)
unfolding written node_at
written_holds s c i j e l = ap (λ n. get_or (nodes_from 0 c) n blank_node) (omega arith)

-- A written script has as many nodes as its code's size says.
pub written_size : (s : Script) (c : Code) → node_count (written s c) ≡ size c
unfolding written node_count
written_size s c = nodes_size c 0

-- The root of a written script is its code's last node.
pub written_root : (s : Script) (c : Code) → root (written s c) ≡ last_node 0 c
unfolding written root node_count
written_root s c = omega (arith, top_last c 0)

-- The tree of a written script is its code's tree.
pub written_tree : {c : Code} (s : Script) → WellFormed c → tree (written s c) (root (written s c)) ≡ written_term 0 c
written_tree {c} s w = rw (written_root s c) (tree_of (written s c) 0 w (written_holds s c))
