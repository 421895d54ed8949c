-- Laws of the table of uses: what holds of its thirteen rows, by one computed test each; any number as a case of the table or past it.
-- Assumes nothing.
use Prim.Native.Nat.{ℕ, zero, suc, ◌≤◌}
use mathlib.Core.Path.{◌≡◌, refl, sym, ap}
use mathlib.Core.Bool.{Bool, true, false, ◌&&◌}
use mathlib.Core.List.{List, [], ◌∷◌}
use native.Mathlib.Omega.{arith}
use lib.ListN.{get_or, length, get_or-eq_default, get_or-map}
use lib.Dec.{leb, ltb}
use borrow.Author.Tests.{leb-true, ltb-true, ltb-false}
use Rattle.lambdamix.specs.declared.Use.{Use}
use Rattle.lambdamix.specs.declared.Use.TheVariants.{Nothing}
use Rattle.lambdamix.specs.Script.{Row, Node, rows, row_of, blank_row}
use Rattle.lambdamix.proofs.KindCases.{KindOf, kind_of}
use Rattle.lambdamix.proofs.Tests.{and_both}
use Rattle.script.specs.Kinds.{use_of, uses_table}
use Rattle.script.specs.KindRows.{row_at}

-- a test passes at each entry of a table
unfoldable pub every : {A : Type 0} → (A → Bool) → List A → Bool
every p [] = true
every p (x ∷ xs) = p x && every p xs

-- so it passes wherever the table is read, if it passes at what is read past the end
pub at_every : {A : Type 0} (p : A → Bool) (d : A) (xs : List A) → p d ≡ true → every p xs ≡ true → (k : ℕ) → p (get_or xs k d) ≡ true
unfolding every
at_every p d [] h e k = h
at_every p d (x ∷ xs) h e zero = (and_both (p x) (every p xs) e).0
at_every p d (x ∷ xs) h e (suc k) = at_every p d xs h (and_both (p x) (every p xs) e).1 k

-- a number that is none of the first n is past them
unfoldable pub Other : ℕ → ℕ → Type 0
Other k zero = Unit {0}
Other k (suc n) = Other k n × (k ≡ n → ⊥)

pub past : (k n : ℕ) → Other k n → n ≤ k
unfolding Other
past k zero o = omega arith
past k (suc n) o = let h = past k n o.0 in omega (arith, o.1)

pub past_rows : (k j : ℕ) → 13 ≤ k → use_of k j ≡ Nothing
unfolding use_of uses_table rows
past_rows k j h = ap (λ (us : List Use). get_or us j Nothing) (get_or-eq_default uses_table [] h)

-- past the table every row is the same
pub past_kinds : (k : ℕ) → 13 ≤ k → row_at k ≡ row_at 13
unfolding row_at
past_kinds k h =
    rw (past_rows k 0 h, past_rows k 1 h, past_rows k 2 h)
    (rw (past_rows 13 0 (omega arith), past_rows 13 1 (omega arith), past_rows 13 2 (omega arith)))

-- and like that of a constant, which has no uses
pub no_uses_past : (k : ℕ) → Other k 13 → row_at 0 ≡ row_at k
unfolding row_at use_of uses_table rows
no_uses_past k o = sym (past_kinds k (past k 13 o))

three_fields : (k : ℕ) → length (get_or uses_table k []) ≤ 3
unfolding uses_table rows every
three_fields k = leb-true _ _ (at_every (λ (us : List Use). leb (length us) 3) [] uses_table refl refl k)

pub past_fields : (k j : ℕ) → 3 ≤ j → use_of k j ≡ Nothing
unfolding use_of
past_fields k j h = get_or-eq_default (get_or uses_table k []) Nothing (omega (arith, three_fields k))

-- the uses of a node's row
pub row_uses : (nd : Node) → (row_of nd).uses ≡ get_or uses_table nd.kind []
unfolding row_of uses_table
row_uses nd = sym (get_or-map (λ (r : Row). r.uses) rows nd.kind blank_row)

-- ---- any number as a kind

-- the kind of a row, or past the table
pub data AnyKind (k : ℕ) : Type 0 where
  in_table : KindOf k → AnyKind k
  past_table : 13 ≤ k → AnyKind k

pub any_kind : (k : ℕ) → AnyKind k
any_kind k = go (ltb k 13) refl
  where
    go : (b : Bool) → ltb k 13 ≡ b → AnyKind k
    go true e = in_table (kind_of k (ltb-true k 13 e))
    go false e = past_table (ltb-false k 13 e)

-- past the table every row is the blank one
pub blank_row_lem : {k : ℕ} → 13 ≤ k → get_or rows k blank_row ≡ blank_row
unfolding rows
blank_row_lem h = get_or-eq_default rows blank_row h
