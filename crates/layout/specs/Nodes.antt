-- The text of a node, for all kinds together: brackets and a leading word by the step of its kind, then the fields by the table of their
-- uses. A `Word` is what stands first in a node's text, no machine word. That this is the text of the node's term is `tree_text` of
-- proofs/Trees.antt. Assumes nothing.
use Rattle.std.specs.Prelude.{ℕ, ◌-◌, Bool, true, false, List, [], ◌∷◌, ◌++◌, ℤ, get_or}
use Rattle.lambdamix.specs.declared.Use.{Use}
use Rattle.lambdamix.specs.Falling.{falling, below}
use Rattle.lambdamix.specs.Script.{Node, step_of}
use Rattle.lambdamix.specs.declared.Step.{Step}
use Rattle.lambdamix.specs.declared.Step.TheVariants.{Constant as constant, Variable as variable, Lift as lift, Function as function, Application as application, Fix as fix, Conditional as conditional, Operation as operation}
use Rattle.lambdamix.specs.declared.Step.TheVariants.{DynamicFunction as dynamic_function, DynamicApplication as dynamic_application, DynamicFix as dynamic_fix, DynamicIf as dynamic_if, DynamicOperation as dynamic_operation}
use Rattle.lambdamix.specs.Term.{applying, fixing, choosing, operator_of}
use Rattle.lambdamix.specs.Text.{ascii, digits, decimal}
use Rattle.lambdamix.specs.Listing.{name_text, operator_text, former_text}
use Rattle.lambdamix.specs.Code.{node}
use Rattle.script.specs.declared.Row.{Row}
use Rattle.script.specs.KindRows.{row_at}
use Rattle.script.specs.Words.{word_kind, word_a, word_b, word_c, word_value}

-- what stands first in the text of a node: the constant's value, nothing (a variable is its name, a lift its child), or, in brackets, the word of its step
pub data Word : Type 0 where
  Value Bare Lam App Fix If Sign : Word

-- static and dynamic steps have the same words
unfoldable pub step_word : Step → Word
step_word constant = Value
step_word variable = Bare
step_word lift = Bare
step_word function = Lam
step_word application = App
step_word fix = Fix
step_word conditional = If
step_word operation = Sign
step_word dynamic_function = Lam
step_word dynamic_application = App
step_word dynamic_fix = Fix
step_word dynamic_if = If
step_word dynamic_operation = Sign

unfoldable pub word_of : ℕ → Word
word_of k = step_word (step_of k)

-- what stands first in the text of a node of field c and value z
unfoldable pub word_text : Word → ℕ → ℤ → List ℕ
word_text Value c z = decimal z
word_text Bare c z = []
word_text Lam c z = ascii "lam"
word_text App c z = former_text applying
word_text Fix c z = former_text fixing
word_text If c z = former_text choosing
word_text Sign c z = operator_text (operator_of c)

-- whether the text of a node stands in brackets, and each field of it behind a space
unfoldable pub in_brackets : Word → Bool
in_brackets Value = false
in_brackets Bare = false
in_brackets Lam = true
in_brackets App = true
in_brackets Fix = true
in_brackets If = true
in_brackets Sign = true

-- a bracket or a space, where they stand
unfoldable pub framed : Bool → ℕ → List ℕ
framed true b = b ∷ []
framed false b = []

-- a field by its use, given the count of inputs and the texts of children
unfoldable pub field_text : ℕ → (ℕ → List ℕ) → Bool → Use → ℕ → List ℕ
field_text n self s Use.Nothing f = []
field_text n self s Use.Name f = framed s 32 ++ name_text n f
field_text n self s Use.Binder f = framed s 32 ++ name_text n f
field_text n self s Use.Child f = framed s 32 ++ self f
field_text n self s Use.ParameterType f = []
field_text n self s Use.Operation f = []

-- the fields by a row of the table
abbrev pub fields_text : ℕ → (ℕ → List ℕ) → Bool → Row → ℕ → ℕ → ℕ → List ℕ
fields_text n self s r a b c = field_text n self s r.0 a ++ field_text n self s r.1 b ++ field_text n self s r.2 c

-- a word, brackets and fields: the text of a node by its word and its row
abbrev pub row_text : ℕ → (ℕ → List ℕ) → Word → Row → ℕ → ℕ → ℕ → ℤ → List ℕ
row_text n self w r a b c z =
    (framed (in_brackets w) 40 ++ word_text w c z) ++ (fields_text n self (in_brackets w) r a b c ++ framed (in_brackets w) 41)

unfoldable pub node_text : ℕ → (ℕ → List ℕ) → Node → List ℕ
node_text n self nd = row_text n self (word_of nd.kind) (row_at nd.kind) nd.a nd.b nd.c nd.value

-- the text of each node of a table
unfoldable pub nodes_text : ℕ → (ℕ → Node) → ℕ → List ℕ
nodes_text n nodes = falling (digits 0) (λ self i. node_text n self (nodes i))

-- the node that a word holds; the fields of a constant's word are parts of its value, and have no use
abbrev pub word_node : ℕ → Node
word_node w = node (word_kind w) (word_a w) (word_b w) (word_c w) (word_value w)

-- the text of a node in words, given the count of inputs
abbrev pub words_text : ℕ → List ℕ → ℕ → List ℕ
words_text n ws = nodes_text n (λ i. word_node (get_or ws i 0))

-- and that of a child of node i, which stands below it
abbrev pub child_text : ℕ → List ℕ → ℕ → ℕ → List ℕ
child_text n ws i = below i (digits 0) (words_text n ws)

-- and that of the last of some nodes, with a newline
abbrev pub whole_text : ℕ → ℕ → List ℕ → List ℕ
whole_text n nodes ws = words_text n ws (nodes - 1) ++ (10 ∷ [])
