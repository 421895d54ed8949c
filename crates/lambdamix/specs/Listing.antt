-- The listing of a script past refusals 1 to 8, as bytes: paper 01, "Listing and program". Marks (annotations) and lifts are
-- dropped. Assumes nothing.
use Rattle.std.specs.Prelude.{ℕ, Bool, true, false, List, [], ◌∷◌, ◌++◌, ltb}
use Rattle.lambdamix.specs.declared.Operator.{Operator}
use Rattle.lambdamix.specs.declared.Operator.TheVariants.{Add, Subtract, Multiply, Divide, Equal, Less}
use Rattle.lambdamix.specs.Script.{Script, input_count, root}
use Rattle.lambdamix.specs.Term.{Term, Terms, nil_t, cons_t, Former, applying, fixing, choosing, operating, const, var, lifted, lam, app, fixed, cond, op}
use Rattle.lambdamix.specs.Term.{dlam, dyn, tree}
use Rattle.lambdamix.specs.Text.{ascii, digits, decimal}

unfoldable pub name_by : Bool → ℕ → List ℕ
name_by true x = ascii "i" ++ digits x
name_by false x = ascii "v" ++ digits x

-- "`i0` an input, `v2` a binder's name": names below the count of inputs are inputs
unfoldable pub name_text : ℕ → ℕ → List ℕ
name_text n x = name_by (ltb x n) x

unfoldable pub operator_text : Operator → List ℕ
operator_text Add = ascii "+"
operator_text Subtract = ascii "-"
operator_text Multiply = ascii "*"
operator_text Divide = ascii "/"
operator_text Equal = ascii "="
operator_text Less = ascii "<"

unfoldable pub former_text : Former → List ℕ
former_text applying = ascii "app"
former_text fixing = ascii "fix"
former_text choosing = ascii "if"
former_text (operating o) = operator_text o

unfoldable pub spaced : List (List ℕ) → List ℕ
spaced [] = []
spaced (p ∷ ps) = ascii " " ++ (p ++ spaced ps)

-- "(word part part)"
unfoldable pub group : List ℕ → List (List ℕ) → List ℕ
group w ps = ascii "(" ++ (w ++ (spaced ps ++ ascii ")"))

unfoldable mutual
  pub term_text : ℕ → Term → List ℕ
  term_text n (const i z) = decimal z
  term_text n (var i x) = name_text n x
  term_text n (lifted i e) = term_text n e
  term_text n (lam i x p e) = group (ascii "lam") (name_text n x ∷ term_text n e ∷ [])
  term_text n (app i e f) = group (former_text applying) (term_text n e ∷ term_text n f ∷ [])
  term_text n (fixed i e) = group (former_text fixing) (term_text n e ∷ [])
  term_text n (cond i e f g) = group (former_text choosing) (term_text n e ∷ term_text n f ∷ term_text n g ∷ [])
  term_text n (op i o e f) = group (former_text (operating o)) (term_text n e ∷ term_text n f ∷ [])
  term_text n (dlam i x e) = group (ascii "lam") (name_text n x ∷ term_text n e ∷ [])
  term_text n (dyn i f es) = group (former_text f) (term_texts n es)

  pub term_texts : ℕ → Terms → List (List ℕ)
  term_texts n nil_t = []
  term_texts n (cons_t e es) = term_text n e ∷ term_texts n es

-- "One newline ends it."
unfoldable pub listing : Script → List ℕ
listing s = term_text (input_count s) (tree s (root s)) ++ ascii "\n"
