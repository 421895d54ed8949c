-- Counting the written nodes of code with an early end is right: something is left exactly where the tree has no more nodes and
-- is no higher than allowed, and then it is what the nodes leave; a piece that is counted twice takes as much again. Assumes nothing.
use Prim.Native.Nat.{ℕ, zero, suc, ◌+◌, ◌-◌, ◌≤◌, max}
use mathlib.Core.Path.{◌≡◌, refl, sym, subst, subst⁻¹}
use mathlib.Core.Bool.{Bool, true, false, ◌&&◌}
use mathlib.Core.Option.{Option, none, some}
use native.Mathlib.Omega.{arith}
use lib.Dec.{leb}
use borrow.Author.Tests.{leb-true, leb-false, le-leb}
use Rattle.lambdamix.specs.Limits.{max_nodes, max_height}
use Rattle.lambdamix.specs.Code.{Code, lit, ref, fn, form, Codes, nil_c, cons_c, size, sizes, code_height, code_heights, fits}
use Rattle.residual.specs.Cells.{charge_by, charge_leaf, charge, charge_all, charge_one, room_of, Counted}

-- r is what is left of b after k nodes, of which there are enough, at most h high; or there are not
data Charged (k t b h : ℕ) : Option ℕ → Type 0 where
  left : {r : ℕ} → k + r ≡ b → t ≤ h → Charged k t b h (some r)
  over : (k ≤ b → t ≤ h → ⊥) → Charged k t b h none

leaf_charged : (k b h : ℕ) → Charged k k b h (charge_leaf k b h)
unfolding charge_leaf charge_by
leaf_charged k b h = go (leb k b) (leb k h) refl refl
  where
    go : (p q : Bool) → leb k b ≡ p → leb k h ≡ q → Charged k k b h (charge_by (p && q) k b)
    go true true e f = left {r = b - k} (omega (arith, leb-true k b e)) (leb-true k h f)
    go true false e f = over (λ x y. omega (arith, leb-false k h f))
    go false q e f = over (λ x y. omega (arith, leb-false k b e))

-- one node more, over a tree that is one less high
up : {k t b h : ℕ} {r : Option ℕ} → Charged k t b h r → Charged (suc k) (suc t) (suc b) (suc h) r
up (left {r} e l) = left {r = r} (omega arith) (omega arith)
up (over f) = over (λ x y. f (omega arith) (omega arith))

together :
    {k t b h : ℕ} {r : Option ℕ} (cs : Codes) → Charged k t b h r →
    ((r : ℕ) → Charged (sizes cs) (code_heights cs) r h (charge_all cs (some r) h)) →
    Charged (k + sizes cs) (max t (code_heights cs)) b h (charge_all cs r h)
unfolding charge
together {k} {t} {b} {h} cs (left {r} e l) f = go (f r)
  where
    go : {o : Option ℕ} → Charged (sizes cs) (code_heights cs) r h o → Charged (k + sizes cs) (max t (code_heights cs)) b h o
    go (left {r = q} e' l') = left {r = q} (omega arith) (omega arith)
    go (over g) = over (λ x y. g (omega arith) (omega arith))
together nil_c (over g) f = over (λ x y. g (omega arith) (omega arith))
together (cons_c c cs) (over g) f = over (λ x y. g (omega arith) (omega arith))

mutual
  unfolding charge size code_height

  charged : (c : Code) (b h : ℕ) → Charged (size c) (code_height c) b h (charge c b h)
  charged (lit z) b h = leaf_charged 2 b h
  charged (ref x) b h = leaf_charged 1 b h
  charged (fn x c) zero h = over (λ p q. omega arith)
  charged (fn x c) (suc b) zero = over (λ p q. omega arith)
  charged (fn x c) (suc b) (suc h) = up (charged c b h)
  charged (form f cs) zero h = over (λ p q. omega arith)
  charged (form f cs) (suc b) zero = over (λ p q. omega arith)
  charged (form f cs) (suc b) (suc h) = up (all_charged cs b h)

  all_charged : (cs : Codes) (b h : ℕ) → Charged (sizes cs) (code_heights cs) b h (charge_all cs (some b) h)
  all_charged nil_c b h = left {r = b} (omega arith) (omega arith)
  all_charged (cons_c c cs) b h = together cs (charged c b h) (λ r. all_charged cs r h)

-- ---- the same piece twice

-- nothing grows
pub no_more : (c : Code) (h room left : ℕ) → room_of left ≡ charge_one c (room_of room) h → left ≤ room
unfolding charge room_of
no_more c h zero zero e = omega arith
no_more c h zero (suc l) e = let z : ◌≡◌ {A = ℕ} 0 1 = cc in absurd (omega arith)
no_more c h (suc b) zero e = omega arith
no_more c h (suc b) (suc l) e = go (subst⁻¹ (Charged (size c) (code_height c) b h) e (charged c b h))
  where
    go : {k t : ℕ} → Charged k t b h (some l) → suc l ≤ suc b
    go (left e g) = omega arith

-- a piece that took a room of b + 1 to l + 1 takes as much of that again
second :
    {k t b l h : ℕ} {o : Option ℕ} (n : ℕ) → Charged k t b h (some l) → Charged k t l h o → n ≡ suc l - (suc b - suc l) → room_of n ≡ o
unfolding room_of
second {b = b} {l = l} n (left e g) (left {r} f i) y = let q : n ≡ suc r = omega arith in rw q
second {k} {l = l} n (left e g) (over f) y =
    let w : k ≤ l → ⊥ = λ x. f x g in
    let q : n ≡ 0 = omega arith in
    rw q

pub again :
    (c : Code) (h room left : ℕ) → room_of left ≡ charge_one c (room_of room) h →
    (n : ℕ) → n ≡ left - (room - left) → room_of n ≡ charge_one c (room_of left) h
unfolding charge room_of
again c h room zero e n y = let q : n ≡ 0 = omega arith in rw q
again c h zero (suc l) e n y = let z : ◌≡◌ {A = ℕ} 0 1 = cc in absurd (omega arith)
again c h (suc b) (suc l) e n y = second n (subst⁻¹ (Charged (size c) (code_height c) b h) e (charged c b h)) (charged c l h) y

-- Code fits a file exactly where something is left of the most nodes and the greatest height; what is left tells its nodes.
pub charge_fits : (c : Code) → charge c max_nodes max_height ≡ none → fits c ≡ false
unfolding fits
charge_fits c e = go (subst (Charged (size c) (code_height c) max_nodes max_height) e (charged c max_nodes max_height))
  where
    by_tests : (a b : Bool) → leb (size c) max_nodes ≡ a → leb (code_height c) max_height ≡ b → (a ≡ true → b ≡ true → ⊥) → (a && b) ≡ false
    by_tests true true p q f = absurd (f refl refl)
    by_tests true false p q f = refl
    by_tests false b p q f = refl

    go : Charged (size c) (code_height c) max_nodes max_height none → (leb (size c) max_nodes && leb (code_height c) max_height) ≡ false
    go (over f) =
        by_tests (leb (size c) max_nodes) (leb (code_height c) max_height) refl refl
        (λ p q. f (leb-true (size c) max_nodes p) (leb-true (code_height c) max_height q))

pub charge_size : (c : Code) (r : ℕ) → charge c max_nodes max_height ≡ some r → (fits c ≡ true) × (size c ≡ max_nodes - r)
unfolding fits
charge_size c r e = go (subst (Charged (size c) (code_height c) max_nodes max_height) e (charged c max_nodes max_height))
  where
    go :
        Charged (size c) (code_height c) max_nodes max_height (some r) →
        ((leb (size c) max_nodes && leb (code_height c) max_height) ≡ true) × (size c ≡ max_nodes - r)
    go (left e l) = (rw (le-leb (size c) max_nodes (omega arith), le-leb (code_height c) max_height l), omega arith)

-- what the count of code leaves tells whether it fits a file, and its nodes
pub counted : (room : ℕ) (c : Code) → room_of room ≡ charge c max_nodes max_height → Counted c room
unfolding room_of
counted zero c e = record { most = omega arith; over = λ z. charge_fits c (sym e); left = λ f. absurd (f refl) }
counted (suc b) c e = go (subst⁻¹ (Charged (size c) (code_height c) max_nodes max_height) e (charged c max_nodes max_height))
  where
    go : Charged (size c) (code_height c) max_nodes max_height (some b) → Counted c (suc b)
    go (left q l) =
        record {
          most = omega arith;
          over = λ z. absurd (omega arith);
          left = λ f. (omega arith, (charge_size c b (sym e)).0);
        }
