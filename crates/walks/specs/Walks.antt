-- Refusals 6, 7 and 8 of the paper on columns, by recursion on falling node numbers: what the code of the structure check
-- computes. That it is what the definitions on the tree say is shown in proofs/. Assumes nothing.
use Rattle.std.specs.Prelude.{ℕ, zero, suc, ◌+◌, ◌/◌, ◌%◌, ◌≤◌, ◌<◌, min, max, ◌≡◌, Bool, true, false, ◌||◌, List, [], ◌∷◌, get_or, length, leb, ltb, eqb}
use Rattle.std.proofs.Math.Option.{Option, none, some}
use Rattle.lambdamix.specs.declared.Use.{Use}
use Rattle.lambdamix.specs.declared.Use.TheVariants.{Nothing, Name, Binder, Child, ParameterType, Operation}
use Rattle.lambdamix.specs.Limits.{max_nodes, max_height}
use Rattle.lambdamix.specs.Falling.{below, falling}
use Rattle.lambdamix.specs.Refusal.{first_by}
use Rattle.lambdamix.specs.Structure.{occurrences, lowest, member, unless_bound, structure_refusal}
use Rattle.script.specs.Kinds.{is_binder, is_child}
use Rattle.script.specs.declared.Row.{Row}
use Rattle.script.specs.Answers.{Verdict}
use Rattle.script.specs.KindRows.{row_at}
use Rattle.script.specs.Refusals.{node_fits}
use Rattle.script.specs.Tables.{Tables, row_node, tables_script}
use Rattle.script.specs.Words.{word_kind, word_a, word_b, word_c, Columns, Packed}
use Rattle.script.specs.Verdicts.{refusal_of}

-- a field in front of others, where a test holds
unfoldable pub kept_if : Bool → ℕ → List ℕ → List ℕ
kept_if true f fs = f ∷ fs
kept_if false f fs = fs

-- the fields that are children by a row of the table
unfoldable pub row_children : Row → ℕ → ℕ → ℕ → List ℕ
row_children r a b c = kept_if (is_child r.0) a (kept_if (is_child r.1) b (kept_if (is_child r.2) c []))

-- the children of node i, by the row of its kind
unfoldable pub children_at : Columns → ℕ → List ℕ
children_at x i = row_children (row_at (x.kind i)) (x.a i) (x.b i) (x.c i)

-- the children of a node in a word
unfoldable pub word_children : ℕ → List ℕ
word_children w = row_children (row_at (word_kind w)) (word_a w) (word_b w) (word_c w)

-- at how many places the first n nodes have j as a child
unfoldable pub uses_below : Columns → ℕ → ℕ → ℕ
uses_below x zero j = 0
uses_below x (suc n) j = uses_below x n j + occurrences j (children_at x n)

unfoldable pub used_once_at : Columns → ℕ → ℕ → Bool
used_once_at x n j = eqb (uses_below x n j) 1

-- counts up to two, after so many more uses of each node
pub record Counted (more : ℕ → ℕ) (before after : List ℕ) : Type 0 where
  pub same : length after ≡ length before
  pub each : (j : ℕ) → j < length before → min 2 (get_or after j 0) ≡ min 2 (get_or before j 0 + more j)

-- the answers at some nodes, joined
unfoldable pub gathered : {A : Type 0} → (A → A → A) → A → (ℕ → A) → List ℕ → A
gathered join d self [] = d
gathered join d self (i ∷ is) = join (self i) (gathered join d self is)

-- "height 256 (a leaf has height 1)"
unfoldable pub height_step : Columns → (ℕ → ℕ) → ℕ → ℕ
height_step x self i = suc (gathered max 0 self (children_at x i))

unfoldable pub height_at : Columns → ℕ → ℕ
height_at x = falling 1 (height_step x)

-- the lowest node of a node's tree that is too high
unfoldable pub too_high_step : Columns → (ℕ → Option ℕ) → ℕ → Option ℕ
too_high_step x self i = lowest (first_by (leb (height_at x i) max_height) i none) (gathered lowest none self (children_at x i))

unfoldable pub too_high_at : Columns → ℕ → Option ℕ
too_high_at x = falling none (too_high_step x)

-- what a walk of heights answers in one number: a height within the limit, or the limit and one plus the lowest node that is
-- too high
pub data Height : ℕ → ℕ → Option ℕ → Type 0 where
  within_limit : {h : ℕ} → h ≤ max_height → Height h h none
  over_limit : {r h j : ℕ} → r ≡ max_height + 1 + j → max_height < h → j < 65536 → Height r h (some j)

-- the answers of two walks in one, and a node over the answer of its children
pub record HeightJoin (p q r : ℕ) : Type 0 where
  pub joined : (h g : ℕ) (t u : Option ℕ) → Height p h t → Height q g u → Height r (max h g) (lowest t u)

pub record HeightNode (i p r : ℕ) : Type 0 where
  pub over : (h : ℕ) (t : Option ℕ) → Height p h t → Height r (suc h) (lowest (first_by (leb (suc h) max_height) i none) t)

-- the height of the highest of some children of node i, and what a walk of heights answers of them
unfoldable pub height_over : Columns → ℕ → List ℕ → ℕ
height_over x i ms = gathered max 0 (below i 1 (height_at x)) ms

abbrev pub HeightOver : Columns → ℕ → List ℕ → ℕ → Type 0
HeightOver x i ms r = Height r (height_over x i ms) (gathered lowest none (below i none (too_high_at x)) ms)

-- node i, if its name is no input's and not among the names
unfoldable pub unbound_name : ℕ → List ℕ → ℕ → ℕ → Option ℕ
unbound_name n xs x i = unless_bound (ltb x n || member x xs) i

-- the lowest unbound variable by a field of node i, under some names: a name is tested, a child is walked
unfoldable pub unbound_field : ℕ → (ℕ → List ℕ → Option ℕ) → ℕ → List ℕ → Use → ℕ → Option ℕ
unbound_field n self i xs Nothing f = none
unbound_field n self i xs Name f = unbound_name n xs f i
unbound_field n self i xs Binder f = none
unbound_field n self i xs Child f = self f xs
unbound_field n self i xs ParameterType f = none
unbound_field n self i xs Operation f = none

unfoldable pub unbound_fields : ℕ → (ℕ → List ℕ → Option ℕ) → ℕ → List ℕ → Row → ℕ → ℕ → ℕ → Option ℕ
unbound_fields n self i xs r a b c =
    lowest (unbound_field n self i xs r.0 a)
    (lowest (unbound_field n self i xs r.1 b) (unbound_field n self i xs r.2 c))

-- by a row: a binder, which stands in field a, is around the fields
unfoldable pub unbound_by : ℕ → (ℕ → List ℕ → Option ℕ) → ℕ → List ℕ → Row → ℕ → ℕ → ℕ → Option ℕ
unbound_by n self i xs r a b c = unbound_fields n self i (kept_if (is_binder r.0) a xs) r a b c

unfoldable pub unbound_step : Columns → ℕ → (ℕ → List ℕ → Option ℕ) → ℕ → List ℕ → Option ℕ
unbound_step x n self i xs = unbound_by n self i xs (row_at (x.kind i)) (x.a i) (x.b i) (x.c i)

unfoldable pub unbound_at : Columns → ℕ → ℕ → List ℕ → Option ℕ
unbound_at x n = falling (λ xs. none) (unbound_step x n)

-- the same of a child of node i
unfoldable pub unbound_below : Columns → ℕ → ℕ → ℕ → List ℕ → Option ℕ
unbound_below x n i = below i (λ xs. none) (unbound_at x n)

-- the first d names, the innermost first
unfoldable pub innermost : List ℕ → ℕ → List ℕ
innermost s zero = []
innermost s (suc d) = get_or s d 0 ∷ innermost s d

-- the first d names are as they were
pub record Kept (d : ℕ) (before after : List ℕ) : Type 0 where
  pub same : length after ≡ length before
  pub names : (k : ℕ) → k < d → get_or after k 0 ≡ get_or before k 0

-- after a field that may be a binder: the names around the children, how many they are, and that the others stay
pub record Entered (u : Use) (f d : ℕ) (before after : List ℕ) (r : ℕ) : Type 0 where
  pub names : innermost after r ≡ kept_if (is_binder u) f (innermost before d)
  pub kept : Kept d before after
  pub least : d ≤ r
  pub most : r ≤ d + 1

-- how many levels a search may go down below a node, and how many inputs there are, both in one number
unfoldable pub levels_in : ℕ → ℕ
levels_in l = l / 65536

unfoldable pub input_count_in : ℕ → ℕ
input_count_in l = l % 65536

-- the lower of a place and another, each in one number: a place stands one higher, and 65535 is none
pub data Lower : ℕ → Option ℕ → ℕ → Type 0 where
  same : {l r : ℕ} → r ≡ l → Lower l none r
  node : {l j r : ℕ} → j < 65534 → r ≡ min l (j + 1) → Lower l (some j) r

-- what a search finds beside what was found before, where k levels are allowed for h: 0 where h is more; and that it leaves the names around it
pub record Scoped (h k : ℕ) (place : Option ℕ) (d l : ℕ) (before after : List ℕ) (r : ℕ) : Type 0 where
  pub found : h ≤ k → Lower l place r
  pub high : k < h → r ≡ 0
  pub kept : Kept d before after

-- The structure check's answer of nodes in words: refusals 6 to 8 of a script whose nodes they are, if every node fits.
pub record Structured (ws : List ℕ) (i n : ℕ) (r : Verdict) : Type 0 where
  pub refusal :
      (t : ℕ) (x : Tables) → 1 ≤ n → n ≤ max_nodes → Packed n (row_node x) ws
      → ((j : ℕ) → j < n → node_fits t i (row_node x) j ≡ true) → refusal_of r ≡ structure_refusal (tables_script t i n x)
