-- The two-level types of source document 001, Definition 1, without type variables: S, D and functions; the types that a
-- script's numbers stand for, and which types a script lists. Assumes nothing.
use Rattle.std.specs.Prelude.{ℕ, zero, suc, ◌+◌, ◌-◌, Bool, true, false, ◌&&◌, ◌||◌, length, get_or, eqb}
use Rattle.lambdamix.specs.Falling.{falling}
use Rattle.lambdamix.specs.Script.{Script, FunctionType}

infixr 20 ◌⇒◌
-- S is the paper's early number, D its late code
pub data Ty : Type 0 where
  S D : Ty
  ◌⇒◌ : Ty → Ty → Ty

unfoldable pub same_type : Ty → Ty → Bool
same_type S S = true
same_type S D = false
same_type S (t ⇒ u) = false
same_type D S = false
same_type D D = true
same_type D (t ⇒ u) = false
same_type (t ⇒ u) S = false
same_type (t ⇒ u) D = false
same_type (t ⇒ u) (v ⇒ w) = same_type t v && same_type u w

abbrev pub blank_type : FunctionType
blank_type = record { parameter = 0; result = 0 }

unfoldable pub type_by : Bool → Bool → (ℕ → Ty) → FunctionType → Ty
type_by true d self f = S
type_by false true self f = D
type_by false false self f = self f.parameter ⇒ self f.result

unfoldable pub type_step : Script → (ℕ → Ty) → ℕ → Ty
type_step s self k = type_by (eqb k 0) (eqb k 1) self (get_or s.types (k - 2) blank_type)

-- "Type 0 is S (early number), 1 is D (late code); listed function types count from 2. Both parts are below the record's
-- own number."
unfoldable pub type_of : Script → ℕ → Ty
type_of s = falling S (type_step s)

unfoldable pub type_count : Script → ℕ
type_count s = 2 + length s.types

unfoldable pub some_type : (ℕ → Ty) → ℕ → Ty → Bool
some_type f zero t = false
some_type f (suc n) t = same_type (f n) t || some_type f n t

-- a type is listed if some number of the script stands for it
unfoldable pub listed : Script → Ty → Bool
listed s t = some_type (type_of s) (type_count s) t
