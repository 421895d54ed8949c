-- A code cell by its kind: the operators past their table; the tree that a cell stands for, one cell at a time; and the count of a
-- tree, its own node first and then its pieces. Assumes nothing.
use Prim.Native.Nat.{ℕ, zero, suc, ◌+◌, ◌-◌, ◌/◌, ◌%◌, ◌≤◌, ◌<◌}
use mathlib.Core.Path.{◌≡◌, refl, sym, ap, ◌∙◌}
use mathlib.Core.Bool.{Bool, true, false, ◌&&◌}
use mathlib.Core.List.{List}
use mathlib.Core.Option.{Option, none, some}
use native.Mathlib.Numerals.{add-one}
use native.Mathlib.Omega.{arith}
use lib.IntN.{pos}
use lib.ListN.{length, get_or, get_or-eq_default}
use lib.Dec.{leb, leb-suc-zero, leb-suc-suc}
use borrow.Author.Tests.{le-leb}
use Rattle.lambdamix.specs.Script.{step_of, rows}
use Rattle.lambdamix.specs.declared.Operator.TheVariants.{Add}
use Rattle.lambdamix.specs.declared.Use.{Use}
use Rattle.lambdamix.specs.declared.Use.TheVariants.{Child}
use Rattle.lambdamix.specs.Limits.{max_nodes, max_height}
use Rattle.lambdamix.specs.Arithmetic.{operators}
use Rattle.lambdamix.specs.Term.{operator_of}
use Rattle.lambdamix.specs.Code.{Code, Codes, lit, ref, fn, form, nil_c, cons_c, operator_number}
use Rattle.lambdamix.proofs.Falling.{falling_step, below_at, below_out}
use Rattle.lambdamix.proofs.KindCases.{constant_kind, variable_kind, lift_kind, function_kind, application_kind, fix_kind, conditional_kind}
use Rattle.lambdamix.proofs.KindCases.{operation_kind, dynamic_function_kind, dynamic_application_kind, dynamic_fix_kind, dynamic_if_kind}
use Rattle.lambdamix.proofs.KindCases.{dynamic_operation_kind}
use Rattle.script.specs.Bytes.{signed_by, signed32}
use Rattle.script.specs.declared.Row.{Row}
use Rattle.script.specs.KindRows.{row_at}
use Rattle.script.specs.Words.{word_value, word_kind, word_a, word_b, word_c}
use Rattle.script.proofs.TableLaws.{AnyKind, in_table, past_table, any_kind, blank_row_lem}
use Rattle.residual.specs.Cells.{two, code_by, code_step, code_at, code_below, piece_by, row_pieces, pieces}
use Rattle.residual.specs.Cells.{charge_by, charge_leaf, charge, charge_all, charge_one, room_of, Charges, ChargesUnder, ChargesAll}
use Rattle.residual.proofs.Rows.{by_piece, HasRow, ByRow, kind_row}

pub past_operators : (f : ℕ) → 6 ≤ f → 0 ≡ operator_number (operator_of f)
unfolding operator_of operator_number
past_operators f h = sym (ap operator_number (get_or-eq_default operators Add {n = f} h))

-- ---- the tree, one cell at a time

pub code_step_lem : (xs : List ℕ) (p : ℕ) → code_at xs p ≡ code_by (step_of (word_kind (get_or xs p 0))) (code_below xs p) (get_or xs p 0)
unfolding code_at code_step code_below
code_step_lem xs p = falling_step (lit (pos 0)) (code_step xs) p

pub below_there : (xs : List ℕ) (p q : ℕ) → q < p → code_below xs p q ≡ code_at xs q
unfolding code_below
below_there xs p q h = below_at p (lit (pos 0)) (code_at xs) q h

pub below_none : (xs : List ℕ) (p q : ℕ) → p ≤ q → code_below xs p q ≡ lit (pos 0)
unfolding code_below
below_none xs p q h = below_out p (lit (pos 0)) (code_at xs) q h

-- any other kind than those of code with a row
abbrev pub Other : ℕ → Type 0
Other k = (k ≡ 1 → ⊥) × (k ≡ 8 → ⊥) × (k ≡ 9 → ⊥) × (k ≡ 10 → ⊥) × (k ≡ 11 → ⊥) × (k ≡ 12 → ⊥)

other_kind : (self : ℕ → Code) (x : ℕ) {k : ℕ} → AnyKind k → Other k → code_by (step_of k) self x ≡ lit (word_value x)
unfolding step_of rows code_by
other_kind self x (in_table constant_kind) r = refl
other_kind self x (in_table variable_kind) r = absurd (r.0 refl)
other_kind self x (in_table lift_kind) r = refl
other_kind self x (in_table function_kind) r = refl
other_kind self x (in_table application_kind) r = refl
other_kind self x (in_table fix_kind) r = refl
other_kind self x (in_table conditional_kind) r = refl
other_kind self x (in_table operation_kind) r = refl
other_kind self x (in_table dynamic_function_kind) r = absurd (r.1 refl)
other_kind self x (in_table dynamic_application_kind) r = absurd (r.2 refl)
other_kind self x (in_table dynamic_fix_kind) r = absurd (r.3 refl)
other_kind self x (in_table dynamic_if_kind) r = absurd (r.4 refl)
other_kind self x (in_table dynamic_operation_kind) r = absurd (r.5 refl)
other_kind self x (past_table h) r = rw (blank_row_lem h)

-- the cell x of kind k stands at p
pub record Cell (xs : List ℕ) (p x k : ℕ) : Type 0 where
  pub word : x ≡ get_or xs p 0
  pub kind : k ≡ word_kind x

-- the cell at p is read as the code c
pub record Read (xs : List ℕ) (p : ℕ) (c : Code) : Type 0 where
  pub code : code_at xs p ≡ c

-- The code at a place, by the kind of its cell.
module _ {xs : List ℕ} {p x k : ℕ} (s : Cell xs p x k) where
  pub by_kind : {j : ℕ} → k ≡ j → code_at xs p ≡ code_by (step_of j) (code_below xs p) x
  by_kind g = code_step_lem xs p ∙ rw (← s.word, ← s.kind, g)

  pub is_variable : k ≡ 1 → Read xs p (ref (word_a x))
  unfolding step_of rows code_by
  is_variable g = record { code = by_kind g }

  pub is_row : {j : ℕ} {r : Row} → HasRow j → k ≡ j → r ≡ row_at j → ByRow (code_at xs p) j r (code_below xs p) x
  is_row h g e = rw (by_kind g, e) (kind_row h (code_below xs p) x)

  pub is_constant : Other k → Read xs p (lit (word_value x))
  is_constant r = record { code = by_kind refl ∙ other_kind (code_below xs p) x (any_kind k) r }

zero_value : word_value 0 ≡ pos 0
unfolding word_value signed32 signed_by
zero_value = let e : 0 % 4294967296 ≡ 0 = omega arith in ap signed32 e

-- past the end stands the constant 0
pub past_read : {xs : List ℕ} {p : ℕ} → length xs ≤ p → Read xs p (lit (pos 0))
unfolding step_of rows code_by word_kind
past_read {xs} {p} h =
    let e : 0 / 281474976710656 ≡ 0 = omega arith in
    record { code = code_step_lem xs p ∙ rw (get_or-eq_default xs 0 {n = p} h, e) (ap lit zero_value) }

-- ---- counting

all_none : (cs : Codes) (h : ℕ) → charge_all cs none h ≡ none
unfolding charge
all_none nil_c h = refl
all_none (cons_c c cs) h = refl

own_charged : (b h : ℕ) → charge_leaf 1 (suc b) (suc h) ≡ some b
unfolding charge_leaf charge_by
own_charged b h = rw (le-leb 1 (suc b) (omega arith), le-leb 1 (suc h) (omega arith)) (ap some (omega arith))

-- k nodes are too many, or too high
nodes_over : (k h : ℕ) → charge_leaf (suc k) 0 h ≡ none
unfolding charge_leaf charge_by
nodes_over k h = rw (leb-suc-zero k)

height_over_lem : (k b : ℕ) → charge_leaf (suc k) b 0 ≡ none
unfolding charge_leaf charge_by
height_over_lem k b = rw (leb-suc-zero k) (go (leb (suc k) b))
  where
    go : (t : Bool) → charge_by (t && false) (suc k) b ≡ none
    go true = refl
    go false = refl

lift_charged : (b h : ℕ) → charge_leaf 2 (suc b) (suc h) ≡ charge_leaf 1 b h
unfolding charge_leaf charge_by
lift_charged b h = rw (leb-suc-suc 1 b, leb-suc-suc 1 h) (go (leb 1 b && leb 1 h))
  where
    go : (t : Bool) → charge_by t 2 (suc b) ≡ charge_by t 1 b
    go true = ap some (omega arith)
    go false = refl

-- Code counts as its own node, and then its pieces, one less high.
charge_pieces : (c : Code) (o : Option ℕ) (h : ℕ) → charge_one c o h ≡ charge_all (pieces c) (charge_one (ref 0) o h) (h - 1)
unfolding charge
charge_pieces c none h = sym (all_none (pieces c) (h - 1))
charge_pieces (ref x) (some b) h = refl
charge_pieces (lit z) (some zero) h = rw (nodes_over 1 h, nodes_over 0 h)
charge_pieces (lit z) (some (suc b)) zero = rw (height_over_lem 1 (suc b), height_over_lem 0 (suc b))
charge_pieces (lit z) (some (suc b)) (suc h) =
    let e : suc h - 1 ≡ h = omega arith in rw (own_charged b h, e, lift_charged b h)
charge_pieces (fn x c) (some zero) h = rw (nodes_over 0 h)
charge_pieces (fn x c) (some (suc b)) zero = rw (height_over_lem 0 (suc b))
charge_pieces (fn x c) (some (suc b)) (suc h) = let e : suc h - 1 ≡ h = omega arith in rw (own_charged b h, e)
charge_pieces (form f cs) (some zero) h = rw (nodes_over 0 h, all_none cs (h - 1))
charge_pieces (form f cs) (some (suc b)) zero = rw (height_over_lem 0 (suc b), all_none cs (0 - 1))
charge_pieces (form f cs) (some (suc b)) (suc h) = let e : suc h - 1 ≡ h = omega arith in rw (own_charged b h, e)

-- ---- rooms

module _ (room h : ℕ) where
  pub no_room : room < 2 → none ≡ charge_one (ref 0) (room_of room) h
  unfolding charge room_of
  no_room l = go room l
    where
      go : (room : ℕ) → room < 2 → none ≡ charge_one (ref 0) (room_of room) h
      go zero l = refl
      go (suc zero) l = sym (nodes_over 0 h)
      go (suc (suc b)) l = let z : ⊥ = omega arith in absurd z

  pub no_height : h ≡ 0 → none ≡ charge_one (ref 0) (room_of room) h
  unfolding charge room_of
  no_height e = rw e (go room)
    where
      go : (room : ℕ) → none ≡ charge_one (ref 0) (room_of room) 0
      go zero = refl
      go (suc b) = sym (height_over_lem 0 b)

  pub node_left : 2 ≤ room → (h ≡ 0 → ⊥) → room_of (room - 1) ≡ charge_one (ref 0) (room_of room) h
  unfolding charge room_of
  node_left l f = go room h l f
    where
      go : (room h : ℕ) → 2 ≤ room → (h ≡ 0 → ⊥) → room_of (room - 1) ≡ charge_one (ref 0) (room_of room) h
      go zero h l f = let z : ⊥ = omega arith in absurd z
      go (suc zero) h l f = let z : ⊥ = omega arith in absurd z
      go (suc (suc b)) zero l f = absurd (f refl)
      go (suc (suc b)) (suc h) l f = let e : suc (suc b) - 1 ≡ suc b = omega arith in rw e (sym (own_charged b h))

-- ---- pieces

charge_more : (c : Code) (cs : Codes) (o : Option ℕ) (h : ℕ) → charge_all (cons_c c cs) o h ≡ charge_all cs (charge_one c o h) h
unfolding charge
charge_more c cs none h = sym (all_none cs h)
charge_more c cs (some b) h = refl

-- a node where there is height for it
node_charged : (room h : ℕ) → charge_one (ref 0) (room_of room) (suc h) ≡ room_of (room - 1)
unfolding charge room_of
node_charged zero h = refl
node_charged (suc zero) h = nodes_over 0 (suc h)
node_charged (suc (suc b)) h = let e : suc (suc b) - 1 ≡ suc b = omega arith in rw e (own_charged b h)

code_charged : (c : Code) (room levels : ℕ) → charge_one c (room_of room) (levels + 1) ≡ charge_all (pieces c) (room_of (room - 1)) levels
code_charged c room levels =
    let e : suc levels - 1 ≡ levels = omega arith in
    rw (add-one levels) (charge_pieces c (room_of room) (suc levels) ∙ rw (node_charged room levels, e))

-- nothing is left where there is no height
none_flat : (c : Code) (o : Option ℕ) → charge_one c o 0 ≡ none
unfolding charge
none_flat c none = refl
none_flat (lit z) (some b) = height_over_lem 1 b
none_flat (ref x) (some b) = height_over_lem 0 b
none_flat (fn x c) (some zero) = refl
none_flat (fn x c) (some (suc b)) = refl
none_flat (form f cs) (some zero) = refl
none_flat (form f cs) (some (suc b)) = refl

all_flat : (c : Code) (cs : Codes) (o : Option ℕ) → charge_all (cons_c c cs) o 0 ≡ none
all_flat c cs o = charge_more c cs o 0 ∙ rw (none_flat c o) (all_none cs 0)

-- any cell but a variable's has something under its node
kind_flat :
    {k : ℕ} → AnyKind k → (self : ℕ → Code) (x : ℕ) (o : Option ℕ) → (k ≡ 1 → ⊥) → charge_all (pieces (code_by (step_of k) self x)) o 0 ≡ none
unfolding step_of rows code_by
kind_flat (in_table constant_kind) self x o f = all_flat (ref 0) nil_c o
kind_flat (in_table variable_kind) self x o f = absurd (f refl)
kind_flat (in_table lift_kind) self x o f = all_flat (ref 0) nil_c o
kind_flat (in_table function_kind) self x o f = all_flat (ref 0) nil_c o
kind_flat (in_table application_kind) self x o f = all_flat (ref 0) nil_c o
kind_flat (in_table fix_kind) self x o f = all_flat (ref 0) nil_c o
kind_flat (in_table conditional_kind) self x o f = all_flat (ref 0) nil_c o
kind_flat (in_table operation_kind) self x o f = all_flat (ref 0) nil_c o
kind_flat (in_table dynamic_function_kind) self x o f = all_flat (self (word_c x)) nil_c o
kind_flat (in_table dynamic_application_kind) self x o f = all_flat (self (word_a x)) (cons_c (self (word_b x)) nil_c) o
kind_flat (in_table dynamic_fix_kind) self x o f = all_flat (self (word_a x)) nil_c o
kind_flat (in_table dynamic_if_kind) self x o f = all_flat (self (word_a x)) (two (self (word_b x)) (self (word_c x))) o
kind_flat (in_table dynamic_operation_kind) self x o f = all_flat (self (word_a x)) (cons_c (self (word_b x)) nil_c) o
kind_flat (past_table h) self x o f = rw (blank_row_lem h) (all_flat (ref 0) nil_c o)

-- a piece: its own node, and what is under it
module _ {xs : List ℕ} {p q room levels : ℕ} where
  pub charges_none : room < 2 → Charges xs p q room levels 0
  unfolding room_of
  charges_none l =
      let e : room - 1 ≡ 0 = omega arith in
      record { left = sym (code_charged (code_below xs p q) room levels ∙ rw e (all_none (pieces (code_below xs p q)) levels)) }

  pub charges_lift : {r : ℕ} → p ≤ q → room_of r ≡ charge_one (ref 0) (room_of (room - 1)) levels → Charges xs p q room levels r
  charges_lift l s = record { left = s ∙ sym (code_charged (code_below xs p q) room levels ∙ rw (below_none xs p q l)) }

  module _ (l : q < p) where
    pub charges_variable : {x k : ℕ} → Cell xs q x k → k ≡ 1 → Charges xs p q room levels (room - 1)
    unfolding charge
    charges_variable s g = record { left = sym (code_charged (code_below xs p q) room levels ∙ rw (below_there xs p q l, (is_variable s g).code)) }

    pub charges_flat : {x k : ℕ} → Cell xs q x k → (k ≡ 1 → ⊥) → levels ≡ 0 → Charges xs p q room levels 0
    unfolding room_of
    charges_flat {x} {k} s g z =
        record {
          left =
              sym
              (code_charged (code_below xs p q) room levels
              ∙ rw (z, below_there xs p q l, by_kind s refl) (kind_flat (any_kind k) (code_below xs q) x (room_of (room - 1)) g));
        }

    pub charges_under : {r : ℕ} → (levels ≡ 0 → ⊥) → ChargesUnder xs q (room - 1) (levels - 1) r → Charges xs p q room levels r
    charges_under f s =
        let e : levels - 1 + 1 ≡ levels = omega (arith, f) in
        record { left = rw e at s.left ∙ sym (code_charged (code_below xs p q) room levels ∙ rw (below_there xs p q l)) }

-- what is under a node: pieces one after the other
pub under_code : {xs : List ℕ} {p room levels r : ℕ} {c : Code} → Read xs p c → ChargesAll (pieces c) room levels r → ChargesUnder xs p room levels r
under_code e s = record { left = rw e.code s.left }

pub under_row :
    {xs : List ℕ} {p x j room levels r : ℕ} {w : Row} → ByRow (code_at xs p) j w (code_below xs p) x →
    ChargesAll (row_pieces w (code_below xs p) x) room levels r → ChargesUnder xs p room levels r
under_row b s = record { left = rw b.pieces s.left }

pub all_node : {room levels r : ℕ} → room_of r ≡ charge_one (ref 0) (room_of room) 1 → ChargesAll (cons_c (ref 0) nil_c) room levels r
all_node {room} {levels} s = record { left = s ∙ node_charged room 0 ∙ sym (rw (add-one levels) (node_charged room levels)) }

-- a field that holds no piece, and one that does
pub all_plain : {cs : Codes} {room levels : ℕ} → cs ≡ nil_c → ChargesAll cs room levels room
unfolding charge
all_plain e = rw e (record { left = refl })

pub child_left :
    {v : Use} (c : Code) {room levels r : ℕ} → v ≡ Child → ChargesAll (piece_by v c nil_c) room levels r →
    room_of r ≡ charge_one c (room_of room) (levels + 1)
unfolding piece_by
child_left c e s = rw e at s.left

module _ {u : Use} (e : u ≡ Child) where
  pub all_child : {xs : List ℕ} {p q room levels r : ℕ} → Charges xs p q room levels r → ChargesAll (piece_by u (code_below xs p q) nil_c) room levels r
  unfolding piece_by
  all_child s = rw e (record { left = s.left })

  -- the piece of the field before once more
  pub all_again :
      (self : ℕ → Code) {v : Use} {q i room levels m r : ℕ} → v ≡ Child → q ≡ i → ChargesAll (piece_by v (self q) nil_c) room levels m →
      ((c : Code) (h : ℕ) → room_of m ≡ charge_one c (room_of room) h → room_of r ≡ charge_one c (room_of m) h) →
      ChargesAll (piece_by u (self i) nil_c) m levels r
  unfolding piece_by
  all_again self {q = q} f g s a = rw (e, ← g) (record { left = a _ _ (child_left (self q) f s) })

-- a field, and others behind it
pub all_more :
    (self : ℕ → Code) (u : Use) {q i room levels m r : ℕ} {cs : Codes} → q ≡ i → ChargesAll (piece_by u (self q) nil_c) room levels m →
    ChargesAll cs m levels r → ChargesAll (piece_by u (self i) cs) room levels r
unfolding charge
all_more self u {q} {room = room} {levels} {cs = cs} e a s =
    rw (← e)
    (record {
      left =
          s.left
          ∙ ap (λ (o : Option ℕ). charge_all cs o (levels + 1)) a.left
          ∙ by_piece u (self q)
          (λ f. charge_all cs (charge_all (f nil_c) (room_of room) (levels + 1)) (levels + 1) ≡ charge_all (f cs) (room_of room) (levels + 1))
          refl (sym (charge_more (self q) cs (room_of room) (levels + 1)));
    })

-- ---- the code at a place, out of the most nodes and the greatest height

pub whole_past : (xs : List ℕ) (p : ℕ) → length xs ≤ p → room_of (max_nodes - 1) ≡ charge (code_at xs p) max_nodes max_height
unfolding charge charge_leaf charge_by room_of max_nodes max_height
whole_past xs p h = rw (past_read h).code

pub whole_under :
    {xs : List ℕ} {p r : ℕ} → ChargesUnder xs p max_nodes (max_height - 2) r → room_of r ≡ charge (code_at xs p) max_nodes max_height
unfolding charge room_of max_nodes max_height
whole_under {xs} {p} s = s.left ∙ sym (code_charged (code_at xs p) (max_nodes + 1) (max_height - 1))
