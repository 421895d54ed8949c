-- The walks on columns are what the definitions say of the tree: one lemma over the thirteen rows for the height, one for the
-- scope, and one fold of the tree for both. Assumes nothing.
use Prim.Native.Nat.{ℕ, zero, suc, ◌<◌, max}
use mathlib.Core.Path.{◌≡◌, refl, sym, ap, ◌∙◌, fun_ext}
use mathlib.Core.Bool.{Bool, true, false}
use mathlib.Core.List.{List, [], ◌∷◌}
use mathlib.Core.Option.{Option}
use mathlib.Core.Logic.{◌⊎◌, ⊎_elim}
use native.Mathlib.Omega.{arith}
use lib.ListN.{get_or}
use lib.Dec.{ltb}
use borrow.Author.Tests.{ltb-true}
use Rattle.lambdamix.specs.declared.Use.{Use}
use Rattle.lambdamix.specs.declared.Use.TheVariants.{Nothing, Name, Binder, Child, ParameterType, Operation}
use Rattle.lambdamix.specs.Falling.{guarded, below, falling}
use Rattle.lambdamix.specs.Script.{Script, Node, Row, rows, row_of, blank_row, fields, if_child, child_fields, children, node_at}
use Rattle.lambdamix.specs.Term.{Term, blank_term, child_at, build, terms, tree_step, tree, height, heights}
use Rattle.lambdamix.specs.Structure.{lowest, unbound}
use Rattle.lambdamix.proofs.Falling.{falling_step}
use Rattle.script.specs.declared.Row as kinds
use Rattle.script.specs.Kinds.{is_child, use_of, uses_table}
use Rattle.script.specs.KindRows.{row_at}
use Rattle.script.specs.Words.{Columns}
use Rattle.walks.specs.Walks.{kept_if, row_children, children_at, gathered, height_step, height_at, unbound_name, unbound_field, unbound_fields}
use Rattle.walks.specs.Walks.{unbound_by, unbound_step, unbound_at}
use Rattle.script.proofs.TableLaws.{row_uses}
use Rattle.walks.proofs.Heights.{lowest_none}

-- what holds of each entry of a list holds wherever it is read, if it holds of what is read past the end
unfoldable pub All : {A : Type 0} → (A → Type 0) → List A → Type 0
All P [] = Unit {0}
All P (x ∷ xs) = P x × All P xs

pub at_all : {A : Type 0} (P : A → Type 0) (d : A) (xs : List A) → P d → All P xs → (k : ℕ) → P (get_or xs k d)
unfolding All
at_all P d [] p q k = p
at_all P d (x ∷ xs) p q zero = q.0
at_all P d (x ∷ xs) p q (suc k) = at_all P d xs p q.1 k

-- a row builds a term whose height is told by the children that it uses
abbrev pub HighRow : ℕ → Node → (ℕ → Term) → Row → Type 0
HighRow i nd f r =
    height (build r.step i nd (terms f (child_fields r.uses (fields nd))))
    ≡ suc (gathered max 0 (λ m. height (f m)) (child_fields r.uses (fields nd)))

high_rows : (i : ℕ) (nd : Node) (f : ℕ → Term) → All (HighRow i nd f) rows
unfolding All rows build terms child_at child_fields if_child fields height gathered
high_rows i nd f = omega arith

pub high_row : (i : ℕ) (nd : Node) (f : ℕ → Term) → HighRow i nd f (row_of nd)
unfolding row_of build terms child_fields height gathered
high_row i nd f = at_all (HighRow i nd f) blank_row rows refl (high_rows i nd f) nd.kind

-- the highest of several terms
pub heights_gathered : (f : ℕ → Term) (ms : List ℕ) → gathered max 0 (λ m. height (f m)) ms ≡ heights (terms f ms)
unfolding terms heights gathered
heights_gathered f [] = refl
heights_gathered f (m ∷ ms) = ap (max (height (f m))) (heights_gathered f ms)

-- the first three of some uses, as the code hands on a row
abbrev first_three : List Use → kinds.Row
first_three us = record { 0 = get_or us 0 Nothing; 1 = get_or us 1 Nothing; 2 = get_or us 2 Nothing }

-- a row builds a term whose unbound variables are told by the fields that it uses
abbrev ScopedRow : ℕ → List ℕ → ℕ → Node → (ℕ → Term) → Row → Type 0
ScopedRow n xs i nd f r =
    unbound n xs (build r.step i nd (terms f (child_fields r.uses (fields nd))))
    ≡ unbound_by n (λ m ys. unbound n ys (f m)) i xs (first_three r.uses) nd.a nd.b nd.c

scoped_rows : (n : ℕ) (xs : List ℕ) (i : ℕ) (nd : Node) (f : ℕ → Term) → All (ScopedRow n xs i nd f) rows
unfolding All rows build terms child_at child_fields if_child fields unbound gathered unbound_by unbound_fields unbound_field unbound_name kept_if lowest
scoped_rows n xs i nd f =
    also (simp lowest_none) (also (simp lowest_none) (also (simp lowest_none) (also refl (also (simp lowest_none) (also (simp lowest_none)
    (also refl (also (simp lowest_none) (also refl (also (simp lowest_none) (also (simp lowest_none) (also (simp lowest_none)
    (also (simp lowest_none) tt))))))))))))
  where
    also : {A B : Type 0} → A → B → A × B
    also p q = (p, q)

scoped_row : (n : ℕ) (xs : List ℕ) (i : ℕ) (nd : Node) (f : ℕ → Term) → ScopedRow n xs i nd f (row_of nd)
unfolding row_of build terms child_fields unbound gathered unbound_by unbound_fields unbound_field unbound_name lowest
scoped_row n xs i nd f = at_all (ScopedRow n xs i nd f) blank_row rows refl (scoped_rows n xs i nd f) nd.kind

-- an answer on terms that goes by steps on the tree goes by the same steps on numbers
tree_fold :
    {A : Type 0} (g : Term → A) (F : (ℕ → A) → ℕ → A) (s : Script) (n : ℕ)
    → ((self : ℕ → Term) (i : ℕ) → i < n → g (tree_step s self i) ≡ F (λ m. g (self m)) i)
    → (k i : ℕ) → i < k → i < n → g (tree s i) ≡ falling (g blank_term) F i
unfolding tree below guarded
tree_fold g F s n step zero i h l = let z : ⊥ = omega arith in absurd z
tree_fold g F s n step (suc k) i h l =
    ap g (falling_step blank_term (tree_step s) i)
    ∙ step (below i blank_term (tree s)) i l
    ∙ ap (λ (f : ℕ → _). F f i) (fun_ext (λ m. at m (ltb m i) refl (λ e. tree_fold g F s n step k m (omega (arith, e)) (omega (arith, e)))))
    ∙ sym (falling_step (g blank_term) F i)
  where
    at : (m : ℕ) (b : Bool) → ltb m i ≡ b → (m < i → g (tree s m) ≡ falling (g blank_term) F m)
        → g (below i blank_term (tree s) m) ≡ below i (g blank_term) (falling (g blank_term) F) m
    at m true e f = rw e (f (ltb-true m i e))
    at m false e f = rw e

child_by_use : (u : Use) (f : ℕ) (fs : List ℕ) → if_child u f fs ≡ kept_if (is_child u) f fs
unfolding if_child kept_if
child_by_use Nothing f fs = refl
child_by_use Name f fs = refl
child_by_use Binder f fs = refl
child_by_use Child f fs = refl
child_by_use ParameterType f fs = refl
child_by_use Operation f fs = refl

-- a list of uses keeps of three fields those that are children
pub kept_fields :
    (us : List Use) (f g h : ℕ)
    → child_fields us (f ∷ g ∷ h ∷ []) ≡ row_children (first_three us) f g h
unfolding child_fields row_children kept_if
kept_fields [] f g h = refl
kept_fields (u ∷ []) f g h = child_by_use u f []
kept_fields (u ∷ v ∷ []) f g h = child_by_use u f _ ∙ ap (kept_if (is_child u) f) (child_by_use v g [])
kept_fields (u ∷ v ∷ w ∷ []) f g h =
    child_by_use u f _ ∙ ap (kept_if (is_child u) f) (child_by_use v g _ ∙ ap (kept_if (is_child v) g) (child_by_use w h []))
kept_fields (u ∷ v ∷ w ∷ z ∷ us) f g h =
    child_by_use u f _ ∙ ap (kept_if (is_child u) f) (child_by_use v g _ ∙ ap (kept_if (is_child v) g) (child_by_use w h []))

row_at_lem : (d : Node) → first_three (row_of d).uses ≡ row_at d.kind
unfolding row_at use_of
row_at_lem d = ap first_three (row_uses d)

-- the columns have the node at i: its kind, and the fields of any but a constant, which uses none
pub record HasAt (y : Columns) (i : ℕ) (d : Node) : Type 0 where
  pub kind : y.kind i ≡ d.kind
  pub fields : (d.kind ≡ 0) ⊎ ((y.a i ≡ d.a) × ((y.b i ≡ d.b) × (y.c i ≡ d.c)))

constant_children : (a b c a' b' c' : ℕ) → row_children (row_at 0) a b c ≡ row_children (row_at 0) a' b' c'
unfolding row_children row_at use_of uses_table rows kept_if
constant_children a b c a' b' c' = refl

constant_scope :
    (n : ℕ) (self : ℕ → List ℕ → Option ℕ) (i : ℕ) (xs : List ℕ) (a b c a' b' c' : ℕ)
    → unbound_by n self i xs (row_at 0) a b c ≡ unbound_by n self i xs (row_at 0) a' b' c'
unfolding unbound_by unbound_fields unbound_field row_at use_of uses_table rows kept_if
constant_scope n self i xs a b c a' b' c' = refl

module _ {y : Columns} {i : ℕ} {d : Node} (has : HasAt y i d) where
  -- what is told by the row of the kind, if the row of a constant tells nothing of the fields
  by_row :
      {A : Type 0} (f : kinds.Row → ℕ → ℕ → ℕ → A) → ((a b c a' b' c' : ℕ) → f (row_at 0) a b c ≡ f (row_at 0) a' b' c')
      → f (row_at d.kind) d.a d.b d.c ≡ f (row_at (y.kind i)) (y.a i) (y.b i) (y.c i)
  by_row f z = ⊎_elim (λ e. constant e (has.kind ∙ e)) (λ e. rw (has.kind, e.0, e.1.0, e.1.1)) has.fields
    where
      constant :
          d.kind ≡ 0 → y.kind i ≡ 0
          → f (row_at d.kind) d.a d.b d.c ≡ f (row_at (y.kind i)) (y.a i) (y.b i) (y.c i)
      constant e g = rw (e, g) (z _ _ _ _ _ _)

  -- the children of the node
  pub children_at_lem : children d ≡ children_at y i
  unfolding children children_at fields
  children_at_lem =
      kept_fields (row_of d).uses d.a d.b d.c
      ∙ ap (λ (r : kinds.Row). row_children r d.a d.b d.c) (row_at_lem d)
      ∙ by_row row_children constant_children

-- the walks over columns that have the first n nodes of a script
module _ (s : Script) (n : ℕ) (y : Columns) (has : (i : ℕ) → i < n → HasAt y i (node_at s i)) where
  -- The walk's height is the height of the tree.
  pub height_tree : (i : ℕ) → i < n → height (tree s i) ≡ height_at y i
  unfolding tree_step children height_at height_step height
  height_tree i l = tree_fold height (height_step y) s n step (suc i) i (omega arith) l
    where
      step : (self : ℕ → Term) (i : ℕ) → i < n → height (tree_step s self i) ≡ height_step y (λ m. height (self m)) i
      step self i l =
          high_row i (node_at s i) self ∙ ap (λ (ms : List ℕ). suc (gathered max 0 (λ m. height (self m)) ms)) (children_at_lem (has i l))

  -- The walk's unbound variable is the one of the tree.
  pub unbound_tree : (k : ℕ) (xs : List ℕ) (i : ℕ) → i < n → unbound k xs (tree s i) ≡ unbound_at y k i xs
  unfolding tree_step children unbound_at unbound_step unbound
  unbound_tree k xs i l =
      ap (λ (f : List ℕ → Option ℕ). f xs) (tree_fold (λ t ys. unbound k ys t) (unbound_step y k) s n step (suc i) i (omega arith) l)
    where
      step : (self : ℕ → Term) (i : ℕ) → i < n
          → (λ ys. unbound k ys (tree_step s self i)) ≡ unbound_step y k (λ m ys. unbound k ys (self m)) i
      step self i l =
          let d = node_at s i in
          fun_ext (λ ys.
          let walk = unbound_by k (λ m zs. unbound k zs (self m)) i ys in
          scoped_row k ys i d self
          ∙ ap (λ (r : kinds.Row). walk r d.a d.b d.c) (row_at_lem d)
          ∙ by_row (has i l) walk (constant_scope k (λ m zs. unbound k zs (self m)) i ys))
