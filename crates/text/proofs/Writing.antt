-- Texts that stand in an output: put at its front, put into what remains from a place on, and joined. Assumes
-- nothing.
use Prim.Native.Nat.{ℕ, suc, ◌+◌, ◌-◌, ◌≤◌, ◌<◌, min}
use mathlib.Core.Path.{◌≡◌, refl, sym, ap, ◌∙◌}
use mathlib.Core.List.{List, [], ◌∷◌, ◌++◌, append_assoc, append-nil}
use native.Mathlib.Omega.{arith}
use native.Mathlib.Numerals.{add-one}
use lib.ListN.{length, take, drop, set, get_or, length-append, length-take, length-drop, take-append-drop, drop_of_length-le}
use lib.Seq.{drop-cons, set-append_seam, take_all, take_at, drop_at, drop-drop}
use Rattle.script.specs.Tables.{over}
use Rattle.text.specs.Places.{Put, Placed, most}

pub put_none : {x : List ℕ} → Put [] x x 0
unfolding over
put_none = record { counted = refl; stands = λ h. refl }

-- one byte more
pub put_last :
    {s x y z : List ℕ} {k : ℕ} (b : ℕ) → Put s x y k → z ≡ set y k b → Put (s ++ (b ∷ [])) x z (k + 1)
unfolding over
put_last {s} {x} {y} {z} {k} b p e = record {
  counted = rw (length-append s (b ∷ [])) (omega (arith, p.counted));
  stands = λ h. e ∙ go (simp length-append at h);
}
  where
    go : length s + 1 ≤ length x → set y k b ≡ (s ++ (b ∷ [])) ++ drop (length (s ++ (b ∷ []))) x
    go h =
        rw (p.counted, p.stands (omega arith), drop-cons x (length s) 0 (omega arith), length-append s (b ∷ []), append_assoc s)
        (set-append_seam s (get_or x (length s) 0) (drop (suc (length s)) x) b ∙ rw add-one)

-- a letter, then a text from the next place on
pub put_behind :
    {s x y z : List ℕ} {e : ℕ} (b : ℕ) → length s < most → length x ≤ most → y ≡ set x 0 b → Placed s 1 y z e → Put (b ∷ s) x z e
unfolding over
put_behind {s} {x} {y} {z} {e} b m l d p = record { counted = omega (arith, p.counted); stands = λ h. go x l h d }
  where
    go :
        (x : List ℕ) → length x ≤ most → suc (length s) ≤ length x → y ≡ set x 0 b → z ≡ b ∷ (s ++ drop (suc (length s)) x)
    go [] l h d = absurd (omega arith)
    go (v ∷ vs) l h d = (rw d at p.stands) l (omega arith)

module _ (s x : List ℕ) (a : ℕ) (h : a + length s ≤ length x) where
  rest_whole : take (length x - a) (drop a x) ≡ drop a x
  rest_whole = take_all (length x - a) (drop a x) (rw (length-drop a x) (omega arith))

  nothing_behind : drop (length x - a) (drop a x) ≡ []
  nothing_behind = drop_of_length-le (drop a x) {i = length x - a} (rw (length-drop a x) (omega arith))

  placed_at :
      {y : List ℕ} → y ≡ over s (take (length x - a) (drop a x)) →
      take a x ++ (y ++ drop (length x - a) (drop a x)) ≡ take a x ++ over s (drop a x)
  placed_at {y} e =
      rw (nothing_behind, append-nil y) (ap (λ (l : List ℕ). take a x ++ l) (rw rest_whole at e))

  front : length (take a x ++ s) ≡ a + length s
  front = rw (length-append (take a x), length-take a x) (omega arith)

  same_length : length (take a x ++ over s (drop a x)) ≡ length x
  unfolding over
  same_length = simp (length-append, length-take, length-drop) (omega arith)

-- what stands at the front of what remains from a place on stands at that place
at_place :
    {s x y : List ℕ} {a from e : ℕ} → from ≡ min a (length x) → e ≡ min (a + length s) most →
    (length (take (length x - from) (drop from x)) ≤ most → length s ≤ length (take (length x - from) (drop from x)) →
    y ≡ over s (take (length x - from) (drop from x))) →
    Placed s a x (take from x ++ (y ++ drop (length x - from) (drop from x))) e
at_place {s} {x} {a} {from} f q p = record {
  counted = q;
  stands = λ m h.
      let r : from ≡ a = omega arith in
      let l : length (take (length x - a) (drop a x)) ≡ length x - a = simp (length-take, length-drop) (omega arith) in
      rw r (placed_at s x a h ((rw r at p) (omega arith) (omega arith)));
}

-- a text that is put there
pub placed :
    {s x y : List ℕ} {a from n e : ℕ} → from ≡ min a (length x) → Put s (take (length x - from) (drop from x)) y n →
    e ≡ min (a + n) most → Placed s a x (take from x ++ (y ++ drop (length x - from) (drop from x))) e
placed f p q = at_place f (omega (arith, p.counted)) (λ m. p.stands)

-- and one that is placed at its front
pub placed_rest :
    {s x y : List ℕ} {a from n e : ℕ} → from ≡ min a (length x) → Placed s 0 (take (length x - from) (drop from x)) y n →
    e ≡ min (a + n) most → Placed s a x (take from x ++ (y ++ drop (length x - from) (drop from x))) e
placed_rest f p q = at_place f (omega (arith, p.counted)) (λ m h. p.stands m (omega arith))

pub at_front : {s x y : List ℕ} {n : ℕ} → n ≤ most → Put s x y n → Placed s 0 x y n
at_front h p = record { counted = omega (arith, p.counted); stands = λ m k. p.stands (omega arith) }

pub stays : {x : List ℕ} {a : ℕ} → a ≤ most → Placed [] a x x a
unfolding over
stays {x} {a} h = record { counted = omega arith; stands = λ m r. sym (take-append-drop a x) }

-- a text that follows another
pub join : {s t x y z : List ℕ} {a b e : ℕ} → Placed s a x y b → Placed t b y z e → Placed (s ++ t) a x z e
unfolding over
join {s} {t} {x} {y} {z} {a} {b} {e} p q = record {
  counted = rw (length-append s t) (omega (arith, p.counted, q.counted));
  stands = λ m h. go m (simp length-append at h);
}
  where
    go : length x ≤ most → a + (length s + length t) ≤ length x → z ≡ take a x ++ over (s ++ t) (drop a x)
    go m h =
        let d : y ≡ take a x ++ over s (drop a x) = p.stands m (omega arith) in
        let l : length y ≡ length x = ap length d ∙ same_length s x a (omega arith) in
        let f : length (take a x ++ s) ≡ b = front s x a (omega arith) ∙ omega (arith, p.counted) in
        let g : y ≡ (take a x ++ s) ++ drop (length s) (drop a x) = d ∙ sym (append_assoc (take a x) s (drop (length s) (drop a x))) in
        let r : List ℕ = drop (length s) (drop a x) in
        q.stands (omega arith) (omega (arith, p.counted))
        ∙ rw (g, take_at (take a x ++ s) r b f, drop_at (take a x ++ s) r b f)
        (rw (drop-drop (length t) (length s) (drop a x), length-append s t) (simp append_assoc))
