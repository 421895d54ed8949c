-- A cell by the row of its kind: a field holds a piece exactly where its use is a child's, and what a row tells of a cell is what its
-- code is. Assumes nothing.
use Prim.Native.Nat.{ℕ}
use mathlib.Core.Path.{◌≡◌, refl}
use mathlib.Core.List.{[], ◌∷◌, ◌++◌, append-nil}
use types.Run.{OneOf, miss}
use denote.Enum.Declared.{tag_of}
use Rattle.lambdamix.specs.declared.Use.{Use}
use Rattle.lambdamix.specs.contracts.Use.{the_type}
use Rattle.lambdamix.specs.declared.Use.TheVariants.{Nothing, Name, Binder, Child, ParameterType, Operation}
use Rattle.lambdamix.specs.Script.{step_of, rows}
use Rattle.lambdamix.specs.Code.{Code, Codes, cons_c, form_node, last_node, number_after, last_nodes, nodes_from, all_nodes_from}
use Rattle.script.specs.declared.Row.{Row}
use Rattle.script.specs.Kinds.{uses_table, use_of}
use Rattle.script.specs.KindRows.{row_at}
use Rattle.residual.specs.Cells.{code_by, piece_by, row_pieces, field_by, row_node, pieces}

-- ---- one field

-- what holds with no piece and with one holds by the use
pub by_piece : (u : Use) (c : Code) (P : (Codes → Codes) → Type 0) → P (λ cs. cs) → P (cons_c c) → P (piece_by u c)
unfolding piece_by
by_piece Nothing c P a b = a
by_piece Name c P a b = a
by_piece Binder c P a b = a
by_piece Child c P a b = b
by_piece ParameterType c P a b = a
by_piece Operation c P a b = a

-- a field of any other use than a child's
pub not_child : (u : Use) → OneOf (0 ∷ 1 ∷ 2 ∷ 4 ∷ 5 ∷ []) (tag_of the_type u) → u ≡ Child → ⊥
not_child u o e = miss (0 ∷ 1 ∷ 2 ∷ 4 ∷ 5 ∷ []) 3 tt (rw e at o)

pub plain : (u : Use) (c : Code) (cs : Codes) (f n : ℕ) → (u ≡ Child → ⊥) → (piece_by u c cs ≡ cs) × (field_by u f 0 ≡ field_by u f n)
unfolding piece_by field_by
plain Nothing c cs f n h = (refl, refl)
plain Name c cs f n h = (refl, refl)
plain Binder c cs f n h = (refl, refl)
plain Child c cs f n h = absurd (h refl)
plain ParameterType c cs f n h = (refl, refl)
plain Operation c cs f n h = (refl, refl)

-- ---- a cell

-- the kinds of code with a row
pub data HasRow : ℕ → Type 0 where
  variable : HasRow 1
  function : HasRow 8
  application : HasRow 9
  fix : HasRow 10
  choice : HasRow 11
  operation : HasRow 12

-- code is that of a cell x of kind j with the row r
pub record ByRow (c : Code) (j : ℕ) (r : Row) (self : ℕ → Code) (x : ℕ) : Type 0 where
  pub pieces : pieces c ≡ row_pieces r self x
  pub number : (k : ℕ) → last_node k c ≡ number_after k (row_pieces r self x)
  pub nodes : (k : ℕ) → nodes_from k c ≡ all_nodes_from k (row_pieces r self x) ++ (row_node j r self x k ∷ [])

pub kind_row : {j : ℕ} → HasRow j → (self : ℕ → Code) (x : ℕ) → ByRow (code_by (step_of j) self x) j (row_at j) self x
unfolding step_of code_by row_at use_of uses_table rows piece_by field_by row_node last_node last_nodes nodes_from form_node
kind_row variable self x = record { pieces = refl; number = λ k. refl; nodes = λ k. refl }
kind_row function self x = record { pieces = refl; number = λ k. refl; nodes = λ k. simp append-nil }
kind_row application self x = record { pieces = refl; number = λ k. refl; nodes = λ k. refl }
kind_row fix self x = record { pieces = refl; number = λ k. refl; nodes = λ k. refl }
kind_row choice self x = record { pieces = refl; number = λ k. refl; nodes = λ k. refl }
kind_row operation self x = record { pieces = refl; number = λ k. refl; nodes = λ k. refl }
