-- The structure of a script's tree: refusals 6, 7 and 8 of paper 01, each with its lowest place, for tables that pass 1 to 5.
-- Assumes nothing.
use Rattle.std.specs.Prelude.{ℕ, ◌+◌, Bool, true, false, ◌||◌, List, [], ◌∷◌, leb, ltb, eqb}
use Rattle.std.proofs.Math.Option.{Option, none, some}
use Rattle.lambdamix.specs.Limits.{max_height}
use Rattle.lambdamix.specs.Script.{Script, Node, children, input_count, node_count, root}
use Rattle.lambdamix.specs.Term.{Term, Terms, nil_t, cons_t, const, var, lifted, lam, app, fixed, cond, op, dlam, dyn, tree, height}
use Rattle.lambdamix.specs.Refusal.{Refusal, or_else, first_failing, refused_at}

unfoldable pub one_if : Bool → ℕ
one_if true = 1
one_if false = 0

unfoldable pub occurrences : ℕ → List ℕ → ℕ
occurrences j [] = 0
occurrences j (i ∷ is) = one_if (eqb i j) + occurrences j is

-- at how many places the nodes have j as a child
unfoldable pub uses : List Node → ℕ → ℕ
uses [] j = 0
uses (nd ∷ nds) j = occurrences j (children nd) + uses nds j

unfoldable pub used_once : Script → ℕ → Bool
used_once s j = eqb (uses s.nodes j) 1

-- "6: a node used never or twice [node]": "Every node but the root is the child of exactly one place."
unfoldable pub use_refusal : Script → Option Refusal
use_refusal s = refused_at 6 (first_failing (used_once s) 0 (root s))

unfoldable pub low_enough : Script → ℕ → Bool
low_enough s i = leb (height (tree s i)) max_height

-- "7: height above 256 [node]"
unfoldable pub height_refusal : Script → Option Refusal
height_refusal s = refused_at 7 (first_failing (low_enough s) 0 (node_count s))

unfoldable pub lowest_by : Bool → ℕ → ℕ → Option ℕ
lowest_by true i j = some i
lowest_by false i j = some j

unfoldable pub lowest : Option ℕ → Option ℕ → Option ℕ
lowest none r = r
lowest (some i) none = some i
lowest (some i) (some j) = lowest_by (leb i j) i j

unfoldable pub member : ℕ → List ℕ → Bool
member x [] = false
member x (y ∷ ys) = eqb y x || member x ys

unfoldable pub unless_bound : Bool → ℕ → Option ℕ
unless_bound true i = none
unless_bound false i = some i

-- the lowest variable of a term that is no input, is not among the names and has no binder in the term
unfoldable mutual
  pub unbound : ℕ → List ℕ → Term → Option ℕ
  unbound n xs (const i z) = none
  unbound n xs (var i x) = unless_bound (ltb x n || member x xs) i
  unbound n xs (lifted i e) = unbound n xs e
  unbound n xs (lam i x p e) = unbound n (x ∷ xs) e
  unbound n xs (app i e f) = lowest (unbound n xs e) (unbound n xs f)
  unbound n xs (fixed i e) = unbound n xs e
  unbound n xs (cond i e f g) = lowest (unbound n xs e) (lowest (unbound n xs f) (unbound n xs g))
  unbound n xs (op i o e f) = lowest (unbound n xs e) (unbound n xs f)
  unbound n xs (dlam i x e) = unbound n (x ∷ xs) e
  unbound n xs (dyn i f es) = unbound_all n xs es

  pub unbound_all : ℕ → List ℕ → Terms → Option ℕ
  unbound_all n xs nil_t = none
  unbound_all n xs (cons_t e es) = lowest (unbound n xs e) (unbound_all n xs es)

-- "8: variable without binder or input [node]"
unfoldable pub scope_refusal : Script → Option Refusal
scope_refusal s = refused_at 8 (unbound (input_count s) [] (tree s (root s)))

-- 6, then 7, then 8
unfoldable pub structure_refusal : Script → Option Refusal
structure_refusal s = or_else (use_refusal s) (or_else (height_refusal s) (scope_refusal s))
