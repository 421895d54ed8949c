-- The structure check on columns that have the nodes of tables, words for instance, is the definition's on the script that the tables hold. Assumes nothing.
use Prim.Native.Nat.{ℕ, zero, suc, ◌+◌, ◌-◌, ◌≤◌, ◌<◌}
use mathlib.Core.Path.{◌≡◌, refl, sym, ap, ◌∙◌}
use mathlib.Core.Bool.{true, true≢false}
use mathlib.Core.List.{List, [], ◌∷◌}
use mathlib.Core.Option.{Option, none, some}
use mathlib.Core.Logic.{◌⊎◌, inl, inr, ⊎_elim}
use native.Mathlib.Omega.{arith}
use native.Mathlib.Nat.{le_refl}
use lib.Dec.{leb, ltb}
use borrow.Author.Tests.{ltb-true, eqb-true}
use Rattle.lambdamix.specs.declared.Use.{Use}
use Rattle.lambdamix.specs.declared.Use.TheVariants.{Nothing, Name, Binder, Child, ParameterType, Operation}
use Rattle.lambdamix.specs.Limits.{max_height}
use Rattle.lambdamix.specs.Script.{Script, Node, row_of, fields, if_child, child_fields, children, input_count, node_at}
use Rattle.lambdamix.specs.Refusal.{first_failing, refused_at, or_else}
use Rattle.lambdamix.specs.Structure.{occurrences, uses, used_once, use_refusal, low_enough, height_refusal, scope_refusal, structure_refusal, member}
use Rattle.lambdamix.proofs.Tests.{and_both, or_cases}
use Rattle.script.specs.File.{numbered}
use Rattle.script.specs.Refusals.{field_right, fields_right, node_fits}
use Rattle.script.specs.Tables.{Tables, row_node, tables_script}
use Rattle.script.specs.Words.{Packed, Columns, columns_in}
use Rattle.walks.specs.Walks.{uses_below, used_once_at, height_at, too_high_at, unbound_at}
use Rattle.script.proofs.Rows.{input_count_lem, node_count_lem, root_last, node_row}
use Rattle.script.proofs.RefusalLaws.{passes}
use Rattle.script.proofs.Searching.{first_same}
use Rattle.walks.proofs.Reaching.{IsChildOf, walk_finds_lowest}
use Rattle.walks.proofs.TreeForms.{HasAt, children_at_lem, height_tree, unbound_tree}

-- a last node's children are counted last
uses_more :
    (f : ℕ → Node) (k n j : ℕ) → uses (numbered f k (suc n)) j ≡ uses (numbered f k n) j + occurrences j (children (f (k + n)))
unfolding numbered uses
uses_more f k zero j = let e : k + 0 ≡ k = omega arith in rw e (omega arith)
uses_more f k (suc n) j =
    let e : suc k + n ≡ k + suc n = omega arith in
    omega (arith, rw e at (uses_more f (suc k) n j))

-- children of a node that fits stand below it
field_falls :
    (t n j m : ℕ) (u : Use) (f : ℕ) (fs : List ℕ) → field_right t n j u f ≡ true → (member m fs ≡ true → m < j)
    → member m (if_child u f fs) ≡ true → m < j
unfolding field_right if_child member
field_falls t n j m Nothing f fs e h = h
field_falls t n j m Name f fs e h = h
field_falls t n j m Binder f fs e h = h
field_falls t n j m Child f fs e h = λ q. ⊎_elim (λ p. rw (sym (eqb-true f m p)) (ltb-true f j e)) h (or_cases _ _ q)
field_falls t n j m ParameterType f fs e h = h
field_falls t n j m Operation f fs e h = h

fields_fall :
    (t n j m : ℕ) (us : List Use) (fs : List ℕ) → fields_right t n j us fs ≡ true → member m (child_fields us fs) ≡ true → m < j
unfolding fields_right child_fields member
fields_fall t n j m [] fs e h = absurd (true≢false (sym h))
fields_fall t n j m (u ∷ us) [] e h = absurd (true≢false (sym h))
fields_fall t n j m (u ∷ us) (f ∷ fs) e h =
    let p = and_both (field_right t n j u f) (fields_right t n j us fs) e in
    field_falls t n j m u f (child_fields us fs) p.0 (fields_fall t n j m us fs p.1) h

fits_fields :
    (t n : ℕ) (f : ℕ → Node) (j : ℕ) → node_fits t n f j ≡ true → fields_right t n j (row_of (f j)).uses (fields (f j)) ≡ true
unfolding node_fits
fits_fields t n f j e = (and_both (fields_right t n j (row_of (f j)).uses (fields (f j))) _ (and_both (ltb (f j).kind 13) _ e).1).0

pub children_fall : (t n : ℕ) (f : ℕ → Node) (j m : ℕ) → node_fits t n f j ≡ true → member m (children (f j)) ≡ true → m < j
unfolding children
children_fall t n f j m e h = fields_fall t n j m (row_of (f j)).uses (fields (f j)) (fits_fields t n f j e) h

-- columns that have the nodes of tables
module _ (t i n : ℕ) (x : Tables) (y : Columns) (has : (j : ℕ) → j < n → HasAt y j (row_node x j)) where
  script_has : (j : ℕ) → j < n → HasAt y j (node_at (tables_script t i n x) j)
  script_has j l = rw (node_row t i n x j l) (has j l)

  script_uses : (j : ℕ) → uses (tables_script t i n x).nodes j ≡ uses_below y n j
  unfolding tables_script uses numbered uses_below
  script_uses j = go n (le_refl n)
    where
      go : (m : ℕ) → m ≤ n → uses (numbered (row_node x) 0 m) j ≡ uses_below y m j
      go zero h = refl
      go (suc m) h =
          let e : 0 + m ≡ m = omega arith in
          uses_more (row_node x) 0 m j ∙ rw (e, children_at_lem (has m h), go m (omega arith))

  use_agrees : use_refusal (tables_script t i n x) ≡ refused_at 6 (first_failing (used_once_at y n) 0 (n - 1))
  unfolding use_refusal used_once used_once_at
  use_agrees =
      ap (refused_at 6) (ap (first_failing (used_once (tables_script t i n x)) 0) (root_last t i n x)
      ∙ first_same (used_once (tables_script t i n x)) (used_once_at y n) 0 (n - 1) (λ j l. rw (script_uses j)))

  scope_agrees : 1 ≤ n → scope_refusal (tables_script t i n x) ≡ refused_at 8 (unbound_at y i (n - 1) [])
  unfolding scope_refusal input_count
  scope_agrees h =
      ap (refused_at 8) (rw (root_last t i n x, input_count_lem t i n x) (unbound_tree (tables_script t i n x) n y script_has i [] (n - 1) (omega arith)))

  module _ (fit : (j : ℕ) → j < n → node_fits t i (row_node x) j ≡ true) where
    script_falls : (j m : ℕ) → j < n → IsChildOf y j m → m < j
    script_falls j m l c = children_fall t i (row_node x) j m (fit j l) (rw (sym (children_at_lem (has j l))) at c)

    height_agrees :
        1 ≤ n → first_failing (used_once_at y n) 0 (n - 1) ≡ none
        → height_refusal (tables_script t i n x) ≡ refused_at 7 (too_high_at y (n - 1))
    unfolding height_refusal low_enough used_once_at
    height_agrees h e =
        ap (refused_at 7) (ap (first_failing (low_enough (tables_script t i n x)) 0) (node_count_lem t i n x)
        ∙ first_same (low_enough (tables_script t i n x)) (λ j. leb (height_at y j) max_height) 0 n
        (λ j l. rw (height_tree (tables_script t i n x) n y script_has j (omega arith)))
        ∙ sym (walk_finds_lowest y n script_falls h (λ j l. eqb-true _ 1 (passes (used_once_at y n) (n - 1) e j l))))

    -- Refusals 6, 7 and 8 of the script are what the walks on the columns find.
    pub structure_agrees :
        1 ≤ n
        → structure_refusal (tables_script t i n x)
        ≡ or_else (refused_at 6 (first_failing (used_once_at y n) 0 (n - 1)))
        (or_else (refused_at 7 (too_high_at y (n - 1))) (refused_at 8 (unbound_at y i (n - 1) [])))
    unfolding structure_refusal refused_at or_else
    structure_agrees h =
        rw (use_agrees, scope_agrees h) (go (first_failing (used_once_at y n) 0 (n - 1)) (height_agrees h))
      where
        s : Script
        s = tables_script t i n x

        go : (r : Option ℕ) → (r ≡ none → height_refusal s ≡ refused_at 7 (too_high_at y (n - 1)))
            → or_else (refused_at 6 r) (or_else (height_refusal s) (refused_at 8 (unbound_at y i (n - 1) [])))
            ≡ or_else (refused_at 6 r) (or_else (refused_at 7 (too_high_at y (n - 1))) (refused_at 8 (unbound_at y i (n - 1) [])))
        go none e = rw (e refl)
        go (some j) e = refl

zero_or : {B : Type 0} (k : ℕ) → ((k ≡ 0 → ⊥) → B) → (k ≡ 0) ⊎ B
zero_or zero f = inl refl
zero_or (suc k) f = inr (f (λ e. omega arith))

packed_has : {n : ℕ} {f : ℕ → Node} {ws : List ℕ} → Packed n f ws → (j : ℕ) → j < n → HasAt (columns_in ws) j (f j)
packed_has {f} p j l =
    let h = p.each j l in
    record { kind = h.kind; fields = zero_or (f j).kind (λ z. (h.a z, (h.b z, h.c z))) }

-- Refusals 6, 7 and 8 of the script are what the walks find on words that hold its nodes.
pub words_agree :
    (t i n : ℕ) (x : Tables) (ws : List ℕ) → Packed n (row_node x) ws → ((j : ℕ) → j < n → node_fits t i (row_node x) j ≡ true) → 1 ≤ n
    → structure_refusal (tables_script t i n x)
    ≡ or_else (refused_at 6 (first_failing (used_once_at (columns_in ws) n) 0 (n - 1)))
    (or_else (refused_at 7 (too_high_at (columns_in ws) (n - 1))) (refused_at 8 (unbound_at (columns_in ws) i (n - 1) [])))
words_agree t i n x ws p fit h = structure_agrees t i n x (columns_in ws) (packed_has p) fit h
