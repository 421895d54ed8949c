-- Scripts as tables: paper 01, "Script file". A script is its listed types, its inputs and its nodes; which fields a kind
-- uses is one table of thirteen rows. The steps of Figure 2 are those of the code, which the paper calls early for static and late for dynamic. Bytes are the
-- matter of the crate `script`. Assumes nothing.
use Rattle.std.specs.Prelude.{ℕ, ◌-◌, List, [], ◌∷◌, ℤ, pos, length, get_or}
pub use Rattle.lambdamix.specs.declared.Step.{Step}
pub use Rattle.lambdamix.specs.declared.Step.TheVariants.{Constant as constant, Variable as variable, Lift as lift, Function as function, Application as application, Fix as fix, Conditional as conditional, Operation as operation}
pub use Rattle.lambdamix.specs.declared.Step.TheVariants.{DynamicFunction as dynamic_function, DynamicApplication as dynamic_application, DynamicFix as dynamic_fix, DynamicIf as dynamic_if, DynamicOperation as dynamic_operation}
use Rattle.lambdamix.specs.declared.Use.{Use}
use Rattle.lambdamix.specs.declared.Use.TheVariants.{Nothing, Name, Binder, Child, ParameterType, Operation}

-- `TY`: "parameter type, result type". Listed function types count from 2.
pub record FunctionType : Type 0 where
  pub parameter : ℕ
  pub result : ℕ

-- `ND`: "kind (1 byte), fields a, b, c (2 bytes each), value (4 bytes, signed)"
pub record Node : Type 0 where
  pub kind : ℕ
  pub a : ℕ
  pub b : ℕ
  pub c : ℕ
  pub value : ℤ

pub record Script : Type 0 where
  pub types : List FunctionType
  pub inputs : List ℕ
  pub nodes : List Node

-- "Input k has the name k; n is the count of inputs."
unfoldable pub input_count : Script → ℕ
input_count s = length s.inputs

unfoldable pub node_count : Script → ℕ
node_count s = length s.nodes

-- "Nodes count from 0; the last is the root."
unfoldable pub root : Script → ℕ
root s = node_count s - 1

abbrev pub blank_node : Node
blank_node = record { kind = 0; a = 0; b = 0; c = 0; value = pos 0 }

unfoldable pub node_at : Script → ℕ → Node
node_at s i = get_or s.nodes i blank_node

pub record Row : Type 0 where
  pub step : Step
  pub uses : List Use

abbrev pub row : Step → Use → Use → Use → Row
row s a b c = record { step = s; uses = a ∷ b ∷ c ∷ [] }

-- "Which fields a kind uses is one table of thirteen rows"
unfoldable pub rows : List Row
rows =
    row constant Nothing Nothing Nothing
    ∷ row variable Name Nothing Nothing
    ∷ row lift Child Nothing Nothing
    ∷ row function Binder ParameterType Child
    ∷ row application Child Child Nothing
    ∷ row fix Child Nothing Nothing
    ∷ row conditional Child Child Child
    ∷ row operation Child Child Operation
    ∷ row dynamic_function Binder Nothing Child
    ∷ row dynamic_application Child Child Nothing
    ∷ row dynamic_fix Child Nothing Nothing
    ∷ row dynamic_if Child Child Child
    ∷ row dynamic_operation Child Child Operation
    ∷ []

abbrev pub blank_row : Row
blank_row = record { step = constant; uses = [] }

unfoldable pub row_of : Node → Row
row_of nd = get_or rows nd.kind blank_row

-- the step of a kind
unfoldable pub step_of : ℕ → Step
step_of k = (get_or rows k blank_row).step

unfoldable pub fields : Node → List ℕ
fields nd = nd.a ∷ nd.b ∷ nd.c ∷ []

unfoldable pub if_child : Use → ℕ → List ℕ → List ℕ
if_child Nothing f fs = fs
if_child Name f fs = fs
if_child Binder f fs = fs
if_child Child f fs = f ∷ fs
if_child ParameterType f fs = fs
if_child Operation f fs = fs

-- the fields that are children, in the order a, b, c
unfoldable pub child_fields : List Use → List ℕ → List ℕ
child_fields [] fs = []
child_fields (u ∷ us) [] = []
child_fields (u ∷ us) (f ∷ fs) = if_child u f (child_fields us fs)

unfoldable pub children : Node → List ℕ
children nd = child_fields (row_of nd).uses (fields nd)
