-- The script of rows: paper 02, 2.4: "It then makes a script with one late input and no types." Its parts are residual code, which is written as finished
-- code is: "nodes are numbered as in finished code". Assumes nothing.
use Rattle.std.specs.Prelude.{ℕ, ◌-◌, ◌*◌, List, [], ◌∷◌, ℤ, pos}
use Rattle.lambdamix.specs.declared.Operator.TheVariants.{Less}
use Rattle.lambdamix.specs.Script.{Script}
use Rattle.lambdamix.specs.Term.{choosing, operating}
use Rattle.lambdamix.specs.Code.{Code, lit, ref, form, nil_c, cons_c, written}
use Rattle.bands.specs.Rows.{Band}

-- late `<` of the input, whose name is 0, and a number
abbrev pub input_below : ℤ → Code
input_below z = form (operating Less) (cons_c (ref 0) (cons_c (lit z) nil_c))

abbrev pub choice : Code → Code → Code → Code
choice c d e = form choosing (cons_c c (cons_c d (cons_c e nil_c)))

-- "The last row's part is the lift of its grade; any other's is a late if on late `<` of the input and the next low, then its own lift, then the next row's
-- part"
unfoldable pub row_part : Band → List Band → Code
row_part r [] = lit r.grade
row_part r (q ∷ rows) = choice (input_below q.low) (lit r.grade) (row_part q rows)

-- the first row's part; no rows are refused, and 0 stands for their part
unfoldable pub band_code : List Band → Code
band_code [] = lit (pos 0)
band_code (r ∷ rows) = row_part r rows

-- "one late input and no types"
abbrev pub one_input : Script
one_input = record { types = []; inputs = 1 ∷ []; nodes = [] }

unfoldable pub band_script : List Band → Script
band_script rows = written one_input (band_code rows)

-- how many nodes the script of so many rows has, and how many bytes its file
unfoldable pub band_nodes : ℕ → ℕ
band_nodes m = 7 * m - 5

unfoldable pub band_length : ℕ → ℕ
band_length m = 91 * m - 53
