-- What the walk of the tree promises: with the nodes and the listed types in words, and the binders around a node on a stack, the
-- inputs below them, a node's answer stands for what `check` gives. Assumes nothing.
use Rattle.std.specs.Prelude.{ℕ, zero, suc, ◌+◌, ◌-◌, ◌≤◌, ◌<◌, Bool, true, false, List, [], ◌∷◌, ◌≡◌, ℤ, length, get_or, eqb}
use Rattle.std.proofs.Math.Option.{none}
use Rattle.lambdamix.specs.declared.Use.{Use}
use Rattle.lambdamix.specs.declared.Use.TheVariants.{Nothing, Name, Binder, Child, ParameterType, Operation}
use Rattle.lambdamix.specs.Limits.{max_types, max_inputs, max_height}
use Rattle.lambdamix.specs.Script.{Script, Node, rows, blank_row, node_at, node_count}
use Rattle.lambdamix.specs.Term.{Term, Terms, nil_t, cons_t, build, tree, height}
use Rattle.lambdamix.specs.Types.{blank_type, type_of, type_count}
use Rattle.lambdamix.specs.Typing.{Context, empty, bind}
use Rattle.lambdamix.specs.Checker.{check, annotation_refusal}
use Rattle.script.specs.Kinds.{is_binder, is_child}
use Rattle.script.specs.declared.Counts.{Counts}
use Rattle.script.specs.declared.Row.{Row}
use Rattle.script.specs.Answers.{Verdict}
use Rattle.script.specs.Refusals.{script_refusal}
use Rattle.script.specs.Replies.{Tells}
use Rattle.script.specs.Tables.{row_node, tables_of}
use Rattle.script.specs.KindRows.{row_at}
use Rattle.script.specs.Words.{word_kind, Packed}
use Rattle.walks.specs.Walks.{Kept}
use Rattle.annotation.specs.AnswerWords.{Passes, pick, high_half, low_half, type_answer, fault_answer, AnswersFor}
use Rattle.annotation.specs.Checks.{script_of}

-- two numbers of 16 bits in a word of 32
pub record Pair (w a b : ℕ) : Type 0 where
  pub high : high_half w ≡ a
  pub low : low_half w ≡ b

-- what a place past the listed types holds: no pair of types
abbrev pub unlisted : ℕ
unlisted = 4294967295

-- the words of t listed types, each its parameter over its result
pub record Lists (t : ℕ) (parameter result : ℕ → ℕ) (ts : List ℕ) : Type 0 where
  pub each : (j : ℕ) → j < t → Pair (get_or ts j 0) (parameter j) (result j)
  pub past : (j : ℕ) → t ≤ j → j < max_types → get_or ts j 0 ≡ unlisted
  pub room : max_types ≤ length ts

-- what the words lent to the walk hold of a script, of which none of refusals 3 to 8 holds
pub record Lent (s : Script) (words ts : List ℕ) : Type 0 where
  pub passes : script_refusal s ≡ none
  pub nodes : Packed (node_count s) (node_at s) words
  pub types :
      Lists (length s.types) (λ j. (get_or s.types j blank_type).parameter) (λ j. (get_or s.types j blank_type).result) ts

-- a place of the type list has the word, or none has
pub data Listing (ts : List ℕ) (w i : ℕ) : ℕ → Type 0 where
  listed_at : (j : ℕ) → j < max_types → get_or ts j 0 ≡ w → Listing ts w i (type_answer (2 + j))
  not_listed : ((j : ℕ) → j < max_types → get_or ts j 0 ≡ w → ⊥) → Listing ts w i (fault_answer 10 i)

-- the first d binders make up a context, the last innermost; a binder is its type's number over its name
pub data Binds (s : Script) (binders : List ℕ) : ℕ → Context → Type 0 where
  no_binder : Binds s binders 0 empty
  one_more :
      {d y t : ℕ} {Γ : Context} → Binds s binders d Γ → Pair (get_or binders d 0) t y → t < type_count s →
      Binds s binders (suc d) (bind y (type_of s t) Γ)

-- the answer of node i, a variable of the name x, among d binders, the last first
unfoldable pub bound : List ℕ → ℕ → ℕ → ℕ → ℕ
bound binders x i zero = fault_answer 9 i
bound binders x i (suc d) =
    pick (eqb (low_half (get_or binders d 0)) x) (type_answer (high_half (get_or binders d 0))) (bound binders x i d)

-- places of the stack: the inputs, and as many binders as a tree is high
abbrev pub stack_places : ℕ
stack_places = max_inputs + max_height

-- n inputs as binders, the first innermost
pub record Bottom (n : ℕ) (types binders : List ℕ) : Type 0 where
  pub each : (j : ℕ) → j < n → Pair (get_or binders (n - 1 - j) 0) (get_or types j 0) j

-- a binder on a stack d deep, which is e deep then
pub record Pushed (w d e : ℕ) (before after : List ℕ) : Type 0 where
  pub kept : Kept d before after
  pub least : d ≤ e
  pub top : d < length before → (e ≡ d + 1) × (get_or after d 0 ≡ w)

-- after a field that may be a binder, of the name y and the type t
pub data Entered (t y d : ℕ) (before : List ℕ) : Bool → ℕ → List ℕ → Type 0 where
  entered : {w e : ℕ} {after : List ℕ} → Pair w t y → Pushed w d e before after → Entered t y d before true e after
  passed_over : Entered t y d before false d before

-- the type of a binder's parameter, by the use of the field that may name it: that one, or D
abbrev pub parameter_by : Use → ℕ → ℕ
parameter_by Nothing t = 1
parameter_by Name t = 1
parameter_by Binder t = 1
parameter_by Child t = 1
parameter_by ParameterType t = t
parameter_by Operation t = 1

-- What the walk promises of node i under d binders, on a stack with room for as many more as the tree of i is high: its answer
-- stands for what `check` gives, and the binders stay.
pub record Answers (words types before after : List ℕ) (d i r : ℕ) : Type 0 where
  pub kept : Kept d before after
  pub reply :
      (s : Script) (Γ : Context) → Lent s words types → Binds s before d Γ → i < node_count s →
      d + height (tree s i) ≤ length before → AnswersFor s r (check s Γ (tree s i))

-- the same of a child m of node i, if its number is smaller
pub record ChildAnswers (words types before after : List ℕ) (d i m r : ℕ) : Type 0 where
  pub kept : Kept d before after
  pub reply : m < i → Answers words types before after d m r

-- the same of a field m of node i that may be a child; any other is D, which is no fault
pub data FieldAnswers (words types : List ℕ) (d i m : ℕ) (before : List ℕ) : Bool → List ℕ → ℕ → Type 0 where
  typed_child :
      {after : List ℕ} {r : ℕ} → ChildAnswers words types before after d i m r → FieldAnswers words types d i m before true after r
  not_visited : FieldAnswers words types d i m before false before (type_answer 1)

-- the word of node i, which is no leaf, and the table's row of its kind
pub record RowOf (words : List ℕ) (i w : ℕ) (r : Row) : Type 0 where
  pub word : w ≡ get_or words i 0
  pub row : r ≡ row_at (word_kind w)
  pub inner : 2 ≤ word_kind w

-- the answers es at fields, of which some are children: those stand for what `check` gives of the terms ts
pub data FieldsAnswer (s : Script) (Γ : Context) : List Bool → List ℕ → Terms → Type 0 where
  none_left : FieldsAnswer s Γ [] [] nil_t
  child_then :
      {bs : List Bool} {e : ℕ} {es : List ℕ} {t : Term} {ts : Terms} → AnswersFor s e (check s Γ t) → FieldsAnswer s Γ bs es ts →
      FieldsAnswer s Γ (true ∷ bs) (e ∷ es) (cons_t t ts)
  other_then : {bs : List Bool} {es : List ℕ} {ts : Terms} → FieldsAnswer s Γ bs es ts → FieldsAnswer s Γ (false ∷ bs) (type_answer 1 ∷ es) ts

-- which fields of a row are children
abbrev pub places : List Use → List Bool
places us = is_child (get_or us 0 Nothing) ∷ is_child (get_or us 1 Nothing) ∷ is_child (get_or us 2 Nothing) ∷ []

-- the type of the parameter of a node, if it is a binder, and the context of its fields
abbrev pub parameter_type : List Use → Node → ℕ
parameter_type us nd = parameter_by (get_or us 1 Nothing) nd.b

abbrev pub inside : Script → Context → List Use → Node → Context
inside s Γ us nd = pick (is_binder (get_or us 0 Nothing)) (bind nd.a (type_of s (parameter_type us nd)) Γ) Γ

-- What is known of a node of the kind k when its rule is asked: the name x in its word, the type p that a binder's parameter would
-- have, and the answers e, f and g at its fields, of which the terms ts are the children.
pub record Visited (s : Script) (Γ : Context) (k x p : ℕ) (nd : Node) (e f g : ℕ) (ts : Terms) : Type 0 where
  pub known : k < 13
  pub name : x ≡ nd.a
  pub parameter : p ≡ parameter_type (get_or rows k blank_row).uses nd
  pub listed : p < type_count s
  pub fields :
      FieldsAnswer s (inside s Γ (get_or rows k blank_row).uses nd) (places (get_or rows k blank_row).uses) (e ∷ f ∷ g ∷ []) ts

-- what the rule of node i promises, which has d binders around it
pub record Ruled (types stack : List ℕ) (d i k x p e f g r : ℕ) : Type 0 where
  pub reply :
      (words : List ℕ) (s : Script) (Γ : Context) (nd : Node) (ts : Terms) → Lent s words types → i < node_count s → Binds s stack d Γ →
      d ≤ length stack → Visited s Γ k x p nd e f g ts → AnswersFor s r (check s Γ (build (get_or rows k blank_row).step i nd ts))

-- Refusals 9 to 11 of all tables with these type and input columns of which none of 1 to 8 holds and whose nodes the words hold.
pub record Annotated (n : Counts) (ps rs is words : List ℕ) (r : Verdict) : Type 0 where
  pub reply :
      (ks xs ys zs : List ℕ) (vs : List ℤ) → Passes n (tables_of ps rs is ks xs ys zs vs) →
      Packed n.nodes (row_node (tables_of ps rs is ks xs ys zs vs)) words →
      Tells (annotation_refusal (script_of n (tables_of ps rs is ks xs ys zs vs))) r
