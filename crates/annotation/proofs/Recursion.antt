-- The recursion on falling node numbers: a node's answer from those at its fields, which go by the table's row of its kind. Assumes
-- nothing.
use Prim.Native.Nat.{ℕ, suc, ◌+◌, ◌≤◌, ◌<◌}
use mathlib.Core.Path.{◌≡◌, refl, ◌∙◌}
use mathlib.Core.Bool.{Bool, true, false}
use mathlib.Core.List.{List, [], ◌∷◌}
use native.Mathlib.Omega.{arith}
use lib.ListN.{length, get_or}
use Rattle.lambdamix.specs.declared.Use.{Use}
use Rattle.lambdamix.specs.declared.Use.TheVariants.{Nothing, Name}
use Rattle.lambdamix.specs.Script.{Script, rows, blank_row, node_at, node_count, fields, child_fields}
use Rattle.lambdamix.specs.Term.{terms, tree, height, heights}
use Rattle.lambdamix.specs.Types.{type_of, type_count}
use Rattle.lambdamix.specs.Typing.{Context, bind}
use Rattle.script.specs.Kinds.{is_binder, is_child}
use Rattle.script.specs.declared.Row.{Row}
use Rattle.script.specs.KindRows.{row_at}
use Rattle.script.specs.Words.{word_kind, word_a, word_b, word_c}
use Rattle.walks.specs.Walks.{kept_if, Kept, row_children}
use Rattle.walks.proofs.TreeForms.{All, kept_fields}
use Rattle.walks.proofs.Scopes.{kept_all}
use Rattle.annotation.specs.AnswerWords.{pick, type_answer}
use Rattle.annotation.specs.Walks.{Lent, Pair, bound, Pushed, Binds, Entered, entered, passed_over, parameter_by, Answers, ChildAnswers, FieldAnswers}
use Rattle.annotation.specs.Walks.{typed_child, not_visited, RowOf, FieldsAnswer, none_left, child_then, other_then, places, Ruled}
use Rattle.annotation.proofs.Trees.{Below, word_node, kind_below, word_drawn, row_use}
use Rattle.annotation.proofs.Contexts.{binds_kept, kept_then, binds_more}
use Rattle.annotation.proofs.Rules.{constant_ruled, variable_ruled}

-- ---- a field that may be a binder

pub enter_binder :
    {a b : Bool} {w t y d e : ℕ} {before after : List ℕ} → a ≡ b → a ≡ true → Pair w t y → Pushed w d e before after →
    Entered t y d before b e after
enter_binder e q p s = rw (← e, q) (entered p s)

pub pass_over : {a b : Bool} {t y d : ℕ} {stack : List ℕ} → a ≡ b → a ≡ false → Entered t y d stack b d stack
pass_over e q = rw (← e, q) passed_over

entered_kept :
    {b : Bool} {t y d e : ℕ} {before after : List ℕ} → Entered t y d before b e after → Kept d before after × (d ≤ e)
entered_kept (entered q p) = (p.kept, p.least)
entered_kept passed_over = (kept_all _ _, omega arith)

entered_binds :
    {s : Script} {Γ : Context} {b : Bool} {t y d e : ℕ} {before after : List ℕ} → Entered t y d before b e after → Binds s before d Γ →
    d < length before → t < type_count s → Binds s after e (pick b (bind y (type_of s t) Γ) Γ) × (e ≤ d + 1) × (length after ≡ length before)
entered_binds (entered q p) b l h = let (e, _) = p.top l in (binds_more p l q h b, omega arith, p.kept.same)
entered_binds passed_over b l h = (b, omega arith, omega arith)

-- ---- a field that may be a child

pub at_child_field :
    {a b : Bool} {words ts before after : List ℕ} {d i m r : ℕ} → a ≡ b → a ≡ true → ChildAnswers words ts before after d i m r →
    FieldAnswers words ts d i m before b after r
at_child_field e q c = rw (← e, q) (typed_child c)

pub at_other_field :
    {a b : Bool} {words ts stack : List ℕ} {d i m r : ℕ} → a ≡ b → a ≡ false → r ≡ type_answer 1 → FieldAnswers words ts d i m stack b stack r
at_other_field e q y = rw (← e, q, y) not_visited

-- the answers es at the fields ms of node i, of which some are children; the stack is `after` then
data Walk (words ts : List ℕ) (d i : ℕ) : List ℕ → List ℕ → List Bool → List ℕ → List ℕ → Type 0 where
  no_field : {stack : List ℕ} → Walk words ts d i stack stack [] [] []
  next_field :
      {before between after ms es : List ℕ} {b : Bool} {bs : List Bool} {m e : ℕ} → FieldAnswers words ts d i m before b between e →
      Walk words ts d i between after bs ms es → Walk words ts d i before after (b ∷ bs) (m ∷ ms) (e ∷ es)

-- those of them that are children
unfoldable kept : List Bool → List ℕ → List ℕ
kept [] ms = []
kept (b ∷ bs) [] = []
kept (b ∷ bs) (m ∷ ms) = kept_if b m (kept bs ms)

module _ {words ts : List ℕ} {d i : ℕ} where
  walk_kept : {before after ms es : List ℕ} {bs : List Bool} → Walk words ts d i before after bs ms es → Kept d before after
  walk_kept no_field = kept_all d _
  walk_kept (next_field (typed_child a) w) = kept_then a.kept (omega arith) (walk_kept w)
  walk_kept (next_field not_visited w) = walk_kept w

  walk_answers :
      {s : Script} {Γ : Context} → Lent s words ts → i < node_count s → {before after ms es : List ℕ} {bs : List Bool} →
      Walk words ts d i before after bs ms es → Binds s before d Γ → Below i (kept bs ms) →
      d + heights (terms (tree s) (kept bs ms)) ≤ length before → FieldsAnswer s Γ bs es (terms (tree s) (kept bs ms))
  unfolding kept kept_if terms heights All
  walk_answers l h no_field b u r = none_left
  walk_answers {s} {Γ} l h (next_field (typed_child a) w) b u r =
      child_then ((a.reply u.0).reply s Γ l b (omega (arith, u.0)) (omega arith))
      (walk_answers l h w (binds_kept b a.kept) u.1 (omega (arith, a.kept.same)))
  walk_answers l h (next_field not_visited w) b u r = other_then (walk_answers l h w b u r)

-- ---- a node over its fields

-- the walk of three fields
three_fields :
    {words ts us vs xs ys : List ℕ} {d i a b c e f g : ℕ} {p q r : Bool} → FieldAnswers words ts d i a us p vs e →
    FieldAnswers words ts d i b vs q xs f → FieldAnswers words ts d i c xs r ys g →
    Walk words ts d i us ys (p ∷ q ∷ r ∷ []) (a ∷ b ∷ c ∷ []) (e ∷ f ∷ g ∷ [])
three_fields a b c = next_field a (next_field b (next_field c no_field))

module _ {words ts before pushed after : List ℕ} {d inner i w p e f g : ℕ} {us : List Use} (o : w ≡ get_or words i 0)
    (us-row : us ≡ (get_or rows (word_kind w) blank_row).uses) (param : p ≡ parameter_by (get_or us 1 Nothing) (word_b w))
    (enter : Entered p (word_a w) d before (is_binder (get_or us 0 Nothing)) inner pushed)
    (walk : Walk words ts inner i pushed after (places us) (word_a w ∷ word_b w ∷ word_c w ∷ []) (e ∷ f ∷ g ∷ [])) where
  stays : Kept d before after
  stays = let (stay, deep) = entered_kept enter in kept_then stay deep (walk_kept walk)

  -- by the uses of the kind's row
  by_uses : {r : ℕ} → Ruled ts after d i (word_kind w) (word_a w) p e f g r → Answers words ts before after d i r
  unfolding fields kept row_children
  by_uses rule = record {
    kept = stays;
    reply = λ s Γ l b h room.
        let x = word_drawn l h o in
        let nd = word_node w (node_at s i).value in
        let c : child_fields us (fields nd) ≡ kept (places us) (word_a w ∷ word_b w ∷ word_c w ∷ []) = kept_fields us _ _ _ in
        let high : height (tree s i) ≡ suc (heights (terms (tree s) (kept (places us) (word_a w ∷ word_b w ∷ word_c w ∷ [])))) = x.high ∙ rw (← us-row, c) in
        let k : p < type_count s = rw (param, us-row) x.known in
        let (inner-binds, deep, same) = entered_binds enter b (omega arith) k in
        let st = walk_answers l h walk inner-binds (rw (← us-row, c) at x.falls) (omega arith) in
        rw (x.term, ← us-row, c)
        (rule.reply words s Γ nd _ l h (binds_kept b stays) (omega (arith, stays.same))
        (record { known = kind_below l h o; name = refl; parameter = rw (← us-row) param; listed = k; fields = rw (← us-row, ← param) st }));
  }

-- the row that the code reads is that of the node's kind
pub of_row :
    {words : List ℕ} {i w k : ℕ} {row : Row} → w ≡ get_or words i 0 → k ≡ word_kind w → row ≡ row_at k → 2 ≤ k → RowOf words i w row
of_row o e r m = record { word = o; row = rw e at r; inner = omega arith }

-- Theorem: the answer of a node whose fields are answered, each by its use in the table's row.
pub at_fields :
    {words ts before pushed first second after : List ℕ} {d inner i w p q x a b c e f g r : ℕ} {row : Row} {n u v z : Bool} →
    RowOf words i w row → p ≡ q → q ≡ parameter_by row.1 (word_b w) →
    Entered p x d before n inner pushed → n ≡ is_binder row.0 → x ≡ word_a w →
    FieldAnswers words ts inner i a pushed u first e → u ≡ is_child row.0 → a ≡ word_a w →
    FieldAnswers words ts inner i b first v second f → v ≡ is_child row.1 → b ≡ word_b w →
    FieldAnswers words ts inner i c second z after g → z ≡ is_child row.2 → c ≡ word_c w →
    Ruled ts after d i (word_kind w) (word_a w) p e f g r → Answers words ts before after d i r
unfolding row_at
at_fields {w = w} o pq q enter n x a u ea b v eb c z ec rule =
    let k = word_kind w in
    by_uses o.word refl (rw (o.row, row_use k 1) at (pq ∙ q)) (rw (n, o.row, x, row_use k 0) at enter)
    (three_fields (rw (u, o.row, ea, row_use k 0) at a) (rw (v, o.row, eb, row_use k 1) at b) (rw (z, o.row, ec, row_use k 2) at c)) rule

-- A leaf: its row has nothing to visit, and its answer is its rule's.
at_leaf :
    {words ts stack : List ℕ} {d i w r : ℕ} (u : Use) → is_binder u ≡ false → is_child u ≡ false → w ≡ get_or words i 0 →
    (u ∷ Nothing ∷ Nothing ∷ []) ≡ (get_or rows (word_kind w) blank_row).uses →
    Ruled ts stack d i (word_kind w) (word_a w) 1 (type_answer 1) (type_answer 1) (type_answer 1) r → Answers words ts stack stack d i r
at_leaf {stack = stack} {d = d} u b n o us rule =
    by_uses {pushed = stack} {inner = d} o us refl (pass_over refl b) (three_fields (at_other_field refl n refl) not_visited not_visited) rule

pub at_constant :
    {words ts stack : List ℕ} {d i w k r : ℕ} → w ≡ get_or words i 0 → k ≡ word_kind w → k ≡ 0 → r ≡ type_answer 0 →
    Answers words ts stack stack d i r
unfolding rows
at_constant o e q y = at_leaf Nothing refl refl o (rw (← e, q)) (constant_ruled e q y)

pub at_variable :
    {words ts stack : List ℕ} {d i w k x r : ℕ} → w ≡ get_or words i 0 → k ≡ word_kind w → k ≡ 1 → x ≡ word_a w →
    (d ≤ length stack → r ≡ bound stack x i d) → Answers words ts stack stack d i r
unfolding rows
at_variable o e q x y = at_leaf Name refl refl o (rw (← e, q)) (variable_ruled e q x y)

-- ---- a child

module _ {words ts before after : List ℕ} {d i m r : ℕ} where
  pub at_child : Answers words ts before after d m r → ChildAnswers words ts before after d i m r
  at_child a = record { kept = a.kept; reply = λ _. a }

pub no_smaller : {words ts stack : List ℕ} {d i m r : ℕ} → i ≤ m → ChildAnswers words ts stack stack d i m r
no_smaller l = record { kept = kept_all _ _; reply = λ h. let z : ⊥ = omega arith in absurd z }
