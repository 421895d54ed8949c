-- How often a walk of the tree from the root comes to each node of a script. Paper 01: "Nodes count from 0; the last is the root."
-- "A child's number is below its parent's. Every node but the root is the child of exactly one place." The tree is that of
-- `tree` of the crate `lambdamix`, in which a node stands as often as places lead to it. Assumes nothing.
use Rattle.std.specs.Prelude.{ℕ, ◌<◌, ◌≡◌, List, [], ◌∷◌, ◌++◌}
use Rattle.lambdamix.specs.Script.{Script, node_count, root}
use Rattle.lambdamix.specs.Term.{Term, Terms, nil_t, cons_t, const, var, lifted, lam, app, fixed, cond, op, dlam, dyn, tree}
use Rattle.lambdamix.specs.Structure.{occurrences}

-- the numbers of a term's nodes in the order of a walk: each node before its children, these in the order a, b, c
unfoldable mutual
  pub walked : Term → List ℕ
  walked (const i z) = i ∷ []
  walked (var i x) = i ∷ []
  walked (lifted i e) = i ∷ walked e
  walked (lam i x p e) = i ∷ walked e
  walked (app i e f) = i ∷ (walked e ++ walked f)
  walked (fixed i e) = i ∷ walked e
  walked (cond i e f g) = i ∷ (walked e ++ (walked f ++ walked g))
  walked (op i o e f) = i ∷ (walked e ++ walked f)
  walked (dlam i x e) = i ∷ walked e
  walked (dyn i f es) = i ∷ walked_all es

  pub walked_all : Terms → List ℕ
  walked_all nil_t = []
  walked_all (cons_t e es) = walked e ++ walked_all es

-- every node is reached from the root exactly once
pub record EachReachedOnce (s : Script) : Type 0 where
  pub once : (i : ℕ) → i < node_count s → occurrences i (walked (tree s (root s))) ≡ 1
