-- The text of a node from those of its children, as the walk puts it together. Assumes nothing.
use Prim.Native.Nat.{ℕ, zero, suc, ◌≤◌, ◌<◌}
use mathlib.Core.Path.{◌≡◌, refl, sym, ap, ◌∙◌}
use mathlib.Core.Bool.{Bool, true, false}
use mathlib.Core.Logic.{◌⊎◌, inl, inr}
use mathlib.Core.List.{List, [], ◌∷◌, ◌++◌, append-nil}
use native.Mathlib.Omega.{arith}
use lib.ListN.{get_or}
use Rattle.lambdamix.specs.declared.Use.{Use}
use Rattle.lambdamix.specs.declared.Use.TheVariants.{Nothing, Name, Binder, Child, ParameterType, Operation}
use Rattle.lambdamix.specs.Falling.{below}
use Rattle.lambdamix.specs.Script.{Node, step_of, rows}
use Rattle.lambdamix.specs.Text.{digits, decimal}
use Rattle.lambdamix.proofs.Falling.{falling_step, below_at, below_out}
use Rattle.lambdamix.specs.Listing.{name_text}
use Rattle.script.specs.declared.Row.{Row}
use Rattle.script.specs.KindRows.{row_at}
use Rattle.script.specs.Words.{word_kind, word_a, word_b, word_c, word_value}
use Rattle.script.specs.Kinds.{use_of, uses_table}
use Rattle.script.proofs.TableLaws.{past_rows, blank_row_lem}
use Rattle.text.specs.Places.{Placed}
use Rattle.text.proofs.Digits.{one_digit}
use Rattle.layout.specs.Nodes.{Word, Value, Bare, step_word, word_of, word_text, in_brackets, framed, field_text, fields_text, row_text, node_text}
use Rattle.layout.specs.Nodes.{nodes_text, word_node, words_text, child_text}

-- a child below its parent, and what stands for one that is not
module _ (n : ℕ) (f : ℕ → List ℕ) (m : ℕ) {at e : ℕ} {x y : List ℕ} where
  pub child_placed : m < n → Placed (f m) at x y e → Placed (below n (digits 0) f m) at x y e
  child_placed h p = rw (below_at n (digits 0) f m h) p

  pub no_child_placed : n ≤ m → Placed (48 ∷ []) at x y e → Placed (below n (digits 0) f m) at x y e
  no_child_placed h p = rw (below_out n (digits 0) f m h, one_digit 0 (omega arith)) p

-- a field that is a name's, and one that has no text
module _ (n : ℕ) (self : ℕ → List ℕ) (s : Bool) (f : ℕ) where
  pub named_field : {u : Use} → (u ≡ Name) ⊎ (u ≡ Binder) → field_text n self s u f ≡ framed s 32 ++ name_text n f
  unfolding field_text
  named_field (inl e) = rw e
  named_field (inr e) = rw e

  pub no_field : (u : Use) → (u ≡ Name → ⊥) → (u ≡ Binder → ⊥) → (u ≡ Child → ⊥) → field_text n self s u f ≡ []
  unfolding field_text
  no_field Nothing a b c = refl
  no_field Name a b c = absurd (a refl)
  no_field Binder a b c = absurd (b refl)
  no_field Child a b c = absurd (c refl)
  no_field ParameterType a b c = refl
  no_field Operation a b c = refl

-- past the table
abbrev pub no_uses : Row
no_uses = record { 0 = Nothing; 1 = Nothing; 2 = Nothing }

pub past_value : (k : ℕ) → 13 ≤ k → word_of k ≡ Value
unfolding word_of step_of step_word rows
past_value k h = rw (blank_row_lem h)

pub past_uses : (k : ℕ) → 13 ≤ k → row_at k ≡ no_uses
unfolding row_at
past_uses k h = rw (past_rows k 0 h, past_rows k 1 h, past_rows k 2 h)

-- none of the numbers from 1 to n
unfoldable pub NoneUpTo : ℕ → ℕ → Type 0
NoneUpTo k zero = Unit {0}
NoneUpTo k (suc n) = NoneUpTo k n × (k ≡ suc n → ⊥)

above : (k n : ℕ) → 1 ≤ k → NoneUpTo k n → suc n ≤ k
unfolding NoneUpTo
above k zero h o = h
above k (suc n) h o = let i : suc n ≤ k = above k n h o.0 in omega (arith, o.1)

-- a kind without an arm of its own: a constant's, or past the table
pub value_kind : (k : ℕ) → NoneUpTo k 12 → (word_of k ≡ Value) × (row_at k ≡ no_uses)
unfolding word_of step_of step_word rows row_at use_of uses_table
value_kind zero o = (refl, refl)
value_kind (suc k) o = let h : 13 ≤ suc k = above (suc k) 12 (omega arith) o in (past_value (suc k) h, past_uses (suc k) h)

-- one step
pub node_step :
    (n : ℕ) (nodes : ℕ → Node) (i : ℕ) →
    nodes_text n nodes i ≡ node_text n (below i (digits 0) (nodes_text n nodes)) (nodes i)
unfolding nodes_text
node_step n nodes i = falling_step (digits 0) (λ self j. node_text n self (nodes j)) i

-- the kind that the walk reads
pub node_kind : {k v w : ℕ} → k ≡ word_kind v → v ≡ w → k ≡ word_kind w
node_kind e f = e ∙ ap word_kind f

-- The text of node i in words, by the kind that an arm names, which is its own, and the row that the arm reads.
module _ (n : ℕ) (ws : List ℕ) (i m : ℕ) {k : ℕ} (kind : k ≡ word_kind (get_or ws i 0)) (same : k ≡ m) {e : ℕ} {x y : List ℕ} where
  by_row :
      {w : Word} {r : Row} → word_of m ≡ w → r ≡ row_at m → Placed (row_text n (child_text n ws i) w r (word_a (get_or ws i 0)) (word_b (get_or ws i 0)) (word_c
      (get_or ws i 0)) (word_value (get_or ws i 0))) 0 x y e →
      Placed (words_text n ws i) 0 x y e
  unfolding node_text
  by_row ew er p = rw (node_step n (λ j. word_node (get_or ws j 0)) i, ← kind, same, ew, ← er) p

  -- a value alone
  pub value_placed : word_of m ≡ Value → row_at m ≡ no_uses → Placed (decimal (word_value (get_or ws i 0))) 0 x y e → Placed (words_text n ws i) 0 x y e
  unfolding word_text in_brackets framed field_text
  value_placed w r p = by_row w (sym r) (rw (append-nil (decimal (word_value (get_or ws i 0)))) p)

  -- a field alone
  pub bare_placed :
      {u : Use} {r : Row} → word_of m ≡ Bare → row_at m ≡ record { 0 = u; 1 = Nothing; 2 = Nothing } → r ≡ row_at m →
      Placed (field_text n (child_text n ws i) false r.0 (word_a (get_or ws i 0))) 0 x y e → Placed (words_text n ws i) 0 x y e
  unfolding word_text in_brackets framed field_text
  bare_placed w d r p = by_row w (sym d) (simp append-nil (rw (r, d) at p))

  -- a word and fields in brackets
  pub group_placed :
      {w : Word} {r : Row} {head : List ℕ} → word_of m ≡ w → in_brackets w ≡ true →
      head ≡ 40 ∷ word_text w (word_c (get_or ws i 0)) (word_value (get_or ws i 0)) → r ≡ row_at m →
      Placed
      (head ++ (fields_text n (child_text n ws i) true r (word_a (get_or ws i 0)) (word_b (get_or ws i 0)) (word_c (get_or ws i 0)) ++ (41 ∷ []))) 0 x y e →
      Placed (words_text n ws i) 0 x y e
  unfolding framed
  group_placed w b h r g = by_row w r (rw b (rw h at g))
