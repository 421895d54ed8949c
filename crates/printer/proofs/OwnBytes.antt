-- How many bytes a node's text has beside those of its children: at most 13, that of a function. Assumes nothing.
use Prim.Native.Nat.{ℕ, suc, ◌+◌, ◌≤◌, ◌<◌}
use mathlib.Core.Path.{◌≡◌, ap}
use mathlib.Core.Bool.{Bool, true, false}
use mathlib.Core.List.{List, [], ◌∷◌}
use native.Mathlib.Omega.{arith}
use lib.IntN.{ℤ, pos, negsuc}
use lib.ListN.{length, get_or, length-append}
use lib.Dec.{ltb}
use Rattle.lambdamix.specs.Arithmetic.{Fits32}
use Rattle.lambdamix.specs.declared.Use.TheVariants.{Nothing}
use Rattle.lambdamix.specs.Script.{Node, Row, rows, row_of, blank_row, step_of, fields, if_child, child_fields, children}
use Rattle.lambdamix.specs.Text.{ascii, decimal}
use Rattle.lambdamix.specs.Term.{operator_of}
use Rattle.lambdamix.specs.Listing.{name_by, name_text, operator_text, former_text}
use Rattle.script.specs.Kinds.{use_of}
use Rattle.script.specs.KindRows.{row_at}
use Rattle.script.proofs.TableLaws.{row_uses}
use Rattle.walks.proofs.TreeForms.{All, at_all}
use Rattle.layout.specs.Nodes.{step_word, word_of, word_text, in_brackets, framed, field_text, row_text, node_text}
use Rattle.text.proofs.Digits.{digits_within}
use Rattle.layout.proofs.WordLaws.{sign_text}

-- the sum of a number for each of a list
unfoldable pub total : (ℕ → ℕ) → List ℕ → ℕ
total g [] = 0
total g (i ∷ is) = g i + total g is

name_bytes : (n x : ℕ) → x < 65536 → length (name_text n x) ≤ 6
unfolding name_text name_by ascii
name_bytes n x h = go (ltb x n)
  where
    go : (b : Bool) → length (name_by b x) ≤ 6
    go true = omega (arith, digits_within 4 x (omega arith))
    go false = omega (arith, digits_within 4 x (omega arith))

decimal_bytes : (z : ℤ) → Fits32 z → length (decimal z) ≤ 11
unfolding decimal
decimal_bytes (pos n) h = omega (arith, digits_within 9 n (omega arith))
decimal_bytes (negsuc n) h = omega (arith, digits_within 9 (suc n) (omega arith))

sign_bytes : (c : ℕ) → length (operator_text (operator_of c)) ≡ 1
sign_bytes c = ap length (sign_text c)

module _ (n : ℕ) (self : ℕ → List ℕ) (nd : Node) where
  -- the text of the node by a row of the table; its own text is that by the row of its kind
  abbrev by_row : Row → List ℕ
  by_row r =
      row_text n self (step_word r.step) (record { 0 = get_or r.uses 0 Nothing; 1 = get_or r.uses 1 Nothing; 2 = get_or r.uses 2 Nothing }) nd.a
      nd.b nd.c nd.value

  own_row : node_text n self nd ≡ by_row (row_of nd)
  unfolding node_text word_of step_of row_of use_of row_at
  own_row = rw (← row_uses nd)

  abbrev RowBytes : Row → Type 0
  RowBytes r = length (by_row r) ≤ 13 + total (λ m. length (self m)) (child_fields r.uses (fields nd))

  -- each row of the table, and the blank one past it
  row_bytes :
      length (name_text n nd.a) ≤ 6 → length (decimal nd.value) ≤ 11 → length (operator_text (operator_of nd.c)) ≡ 1 →
      All RowBytes (blank_row ∷ rows)
  unfolding All rows total step_word fields child_fields if_child word_text in_brackets framed field_text former_text ascii
  row_bytes x y o = simp length-append (omega (arith, x, y, o))

-- The bytes of a node's text, given those of its children's.
pub own_bytes :
    (n : ℕ) (self : ℕ → List ℕ) (nd : Node) → nd.a < 65536 → Fits32 nd.value →
    length (node_text n self nd) ≤ 13 + total (λ m. length (self m)) (children nd)
unfolding row_of children All
own_bytes n self nd h g =
    let (past, each) = row_bytes n self nd (name_bytes n nd.a h) (decimal_bytes nd.value g) (sign_bytes nd.c) in
    rw (own_row n self nd) (at_all (RowBytes n self nd) blank_row rows past each nd.kind)
