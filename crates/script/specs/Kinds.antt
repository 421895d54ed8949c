-- One field's use in the table of thirteen rows. Assumes nothing.
use Rattle.std.specs.Prelude.{ℕ, Bool, true, false, List, [], map, get_or}
use Rattle.lambdamix.specs.declared.Use.{Use}
use Rattle.lambdamix.specs.declared.Use.TheVariants.{Nothing, Name, Binder, Child, ParameterType, Operation}
use Rattle.lambdamix.specs.Script.{Row, rows}

-- the table of tables: per kind, the use of fields a, b, c
unfoldable pub uses_table : List (List Use)
uses_table = map (λ (r : Row). r.uses) rows

-- the use of field 0, 1 or 2 of a kind, and nothing past the table
unfoldable pub use_of : ℕ → ℕ → Use
use_of k j = get_or (get_or uses_table k []) j Nothing

-- what a use asks of a walk
abbrev pub is_child : Use → Bool
is_child Nothing = false
is_child Name = false
is_child Binder = false
is_child Child = true
is_child ParameterType = false
is_child Operation = false

abbrev pub is_binder : Use → Bool
is_binder Nothing = false
is_binder Name = false
is_binder Binder = true
is_binder Child = false
is_binder ParameterType = false
is_binder Operation = false
