-- The text of a node, put together from its row of the tables, is the text of the node's term. Assumes nothing.
use Prim.Native.Nat.{ℕ, zero, suc, ◌<◌}
use mathlib.Core.Path.{◌≡◌, refl, sym, ap, ◌∙◌, fun_ext}
use mathlib.Core.Bool.{Bool, true, false}
use mathlib.Core.List.{List, [], ◌∷◌, ◌++◌, append_assoc, append-nil}
use native.Mathlib.Omega.{arith}
use lib.IntN.{ℤ}
use lib.Dec.{ltb}
use Rattle.lambdamix.specs.Falling.{guarded, below}
use Rattle.lambdamix.specs.Script.{Script, Node, node_at, node_count, rows, row_of, step_of, fields, if_child, child_fields, children}
use Rattle.lambdamix.specs.Term.{Term, blank_term, child_at, build, terms, tree_step, tree}
use Rattle.lambdamix.specs.Text.{ascii, digits, decimal}
use Rattle.lambdamix.specs.Listing.{former_text, spaced, group, term_text}
use Rattle.script.specs.Kinds.{uses_table, use_of}
use Rattle.lambdamix.proofs.Falling.{falling_step, below_same}
use Rattle.lambdamix.proofs.KindCases.{constant_kind, variable_kind, lift_kind, function_kind, application_kind, fix_kind, conditional_kind}
use Rattle.lambdamix.proofs.KindCases.{operation_kind, dynamic_function_kind, dynamic_application_kind, dynamic_fix_kind, dynamic_if_kind}
use Rattle.lambdamix.proofs.KindCases.{dynamic_operation_kind}
use Rattle.script.proofs.TableLaws.{AnyKind, in_table, past_table, any_kind, blank_row_lem, past_rows}
use Rattle.layout.specs.Nodes.{step_word, word_of, word_text, in_brackets, framed, field_text, node_text, nodes_text, word_node}
use Rattle.lambdamix.specs.Code.{node}
use Rattle.lambdamix.proofs.KindCases.{KindOf}
use Rattle.script.specs.KindRows.{row_at}
use Rattle.script.specs.Words.{word_value, Holds}
use Rattle.layout.proofs.NodeLaws.{node_step}

regroup :
    (w u v t : List ℕ) →
    (40 ∷ []) ++ (w ++ ((u ++ (v ++ (t ++ []))) ++ (41 ∷ []))) ≡ ((40 ∷ []) ++ w) ++ ((u ++ v ++ t) ++ (41 ∷ []))
regroup w u v t = simp (append_assoc, append-nil)

-- a text without fields
alone : (w : List ℕ) → w ≡ w ++ []
alone w = simp append-nil

-- a word in brackets and its fields, as a group of parts
module _ (n : ℕ) (t : ℕ → Term) (k a b c : ℕ) (z : ℤ) where
  abbrev part : ℕ → ℕ → List ℕ
  part j f = field_text n (λ m. term_text n (t m)) (in_brackets (word_of k)) (use_of k j) f

  in_brackets_lem :
      (40 ∷ []) ++ (word_text (word_of k) c z ++ ((part 0 a ++ (part 1 b ++ (part 2 c ++ []))) ++ (41 ∷ [])))
      ≡ ((40 ∷ []) ++ word_text (word_of k) c z) ++ ((part 0 a ++ part 1 b ++ part 2 c) ++ (41 ∷ []))
  in_brackets_lem = regroup (word_text (word_of k) c z) (part 0 a) (part 1 b) (part 2 c)

-- For each row of the tables, and past them.
row_text_lem :
    (n : ℕ) (t : ℕ → Term) (i a b c : ℕ) (z : ℤ) {k : ℕ} → AnyKind k →
    let nd : Node = record { kind = k; a = a; b = b; c = c; value = z } in
    term_text n (build (row_of nd).step i nd (terms t (children nd))) ≡ node_text n (λ m. term_text n (t m)) nd
unfolding term_text build row_of rows terms children child_fields if_child fields child_at node_text word_of step_word step_of use_of uses_table word_text
    in_brackets framed field_text row_at group spaced ascii former_text
row_text_lem n t i a b c z (in_table constant_kind) = simp append-nil
row_text_lem n t i a b c z (in_table variable_kind) = simp append-nil
row_text_lem n t i a b c z (in_table lift_kind) = simp append-nil
row_text_lem n t i a b c z (in_table function_kind) = in_brackets_lem n t 3 a b c z
row_text_lem n t i a b c z (in_table application_kind) = in_brackets_lem n t 4 a b c z
row_text_lem n t i a b c z (in_table fix_kind) = in_brackets_lem n t 5 a b c z
row_text_lem n t i a b c z (in_table conditional_kind) = in_brackets_lem n t 6 a b c z
row_text_lem n t i a b c z (in_table operation_kind) = in_brackets_lem n t 7 a b c z
row_text_lem n t i a b c z (in_table dynamic_function_kind) = in_brackets_lem n t 8 a b c z
row_text_lem n t i a b c z (in_table dynamic_application_kind) = in_brackets_lem n t 9 a b c z
row_text_lem n t i a b c z (in_table dynamic_fix_kind) = in_brackets_lem n t 10 a b c z
row_text_lem n t i a b c z (in_table dynamic_if_kind) = in_brackets_lem n t 11 a b c z
row_text_lem n t i a b c z (in_table dynamic_operation_kind) = in_brackets_lem n t 12 a b c z
row_text_lem n t i a b c z {k} (past_table h) = rw (blank_row_lem h, past_rows k 0 h, past_rows k 1 h, past_rows k 2 h) (alone (decimal z))

-- a guarded answer, mapped
below_map :
    {A B : Type 0} (h : A → B) (n : ℕ) (d : A) (f : ℕ → A) → (λ m. h (below n d f m)) ≡ below n (h d) (λ m. h (f m))
unfolding below guarded
below_map h n d f = fun_ext (λ m. go (ltb m n) m)
  where
    go : (b : Bool) (m : ℕ) → h (guarded b d f m) ≡ guarded b (h d) (λ k. h (f k)) m
    go true m = refl
    go false m = refl

-- A word that holds a node has the node's text: of a constant only the value is read, of any other kind only the fields.
module _ (n : ℕ) (self : ℕ → List ℕ) {w a b c : ℕ} {z : ℤ} where
  constant_held : Holds w (node 0 a b c z) → node_text n self (node 0 a b c z) ≡ node_text n self (word_node w)
  unfolding node_text word_of step_word step_of rows use_of uses_table row_at word_text in_brackets framed field_text
  constant_held h = rw (h.kind, h.value refl)

  step_held :
      (k : ℕ) → (k ≡ 0 → ⊥) → word_text (word_of k) c z ≡ word_text (word_of k) c (word_value w) → Holds w (node k a b c z) →
      node_text n self (node k a b c z) ≡ node_text n self (word_node w)
  unfolding node_text
  step_held k o e h = rw (h.kind, h.a o, h.b o, h.c o, e)

  pub held_text : (k : ℕ) → KindOf k → Holds w (node k a b c z) → node_text n self (node k a b c z) ≡ node_text n self (word_node w)
  unfolding word_of step_word step_of rows word_text
  held_text k constant_kind h = constant_held h
  held_text k variable_kind h = step_held 1 (λ e. omega arith) refl h
  held_text k lift_kind h = step_held 2 (λ e. omega arith) refl h
  held_text k function_kind h = step_held 3 (λ e. omega arith) refl h
  held_text k application_kind h = step_held 4 (λ e. omega arith) refl h
  held_text k fix_kind h = step_held 5 (λ e. omega arith) refl h
  held_text k conditional_kind h = step_held 6 (λ e. omega arith) refl h
  held_text k operation_kind h = step_held 7 (λ e. omega arith) refl h
  held_text k dynamic_function_kind h = step_held 8 (λ e. omega arith) refl h
  held_text k dynamic_application_kind h = step_held 9 (λ e. omega arith) refl h
  held_text k dynamic_fix_kind h = step_held 10 (λ e. omega arith) refl h
  held_text k dynamic_if_kind h = step_held 11 (λ e. omega arith) refl h
  held_text k dynamic_operation_kind h = step_held 12 (λ e. omega arith) refl h

-- The text of the term of a node of a script, from any table of nodes that have the texts of the script's.
module _ (n : ℕ) (s : Script) (nodes : ℕ → Node)
    (same : (i : ℕ) → i < node_count s → (self : ℕ → List ℕ) → node_text n self (node_at s i) ≡ node_text n self (nodes i)) where
  upto : (g i : ℕ) → i < g → i < node_count s → term_text n (tree s i) ≡ nodes_text n nodes i
  unfolding tree tree_step term_text decimal
  upto zero i h r = absurd (omega arith)
  upto (suc g) i h r =
      let nd : Node = node_at s i in
      ap (term_text n) (falling_step blank_term (tree_step s) i)
      ∙ row_text_lem n (below i blank_term (tree s)) i nd.a nd.b nd.c nd.value (any_kind nd.kind)
      ∙ ap (λ (self : ℕ → List ℕ). node_text n self nd)
      (below_map (term_text n) i blank_term (tree s)
      ∙ below_same i (digits 0) (λ m. term_text n (tree s m)) (nodes_text n nodes) (λ m l. upto g m (omega arith) (omega arith)))
      ∙ same i r (below i (digits 0) (nodes_text n nodes))
      ∙ sym (node_step n nodes i)

  pub tree_text : (i : ℕ) → i < node_count s → term_text n (tree s i) ≡ nodes_text n nodes i
  tree_text i r = upto (suc i) i (omega arith) r
