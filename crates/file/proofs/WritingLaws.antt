-- Stores in a row: bytes set from a place on, one part after the other, and records one after the other; past the end they
-- change nothing. Assumes nothing.
use Prim.Native.Nat.{ℕ, suc, ◌+◌, ◌*◌, ◌≤◌, ◌<◌}
use mathlib.Core.Path.{◌≡◌, refl, sym, ap, ◌∙◌, subst}
use mathlib.Core.List.{List, [], ◌∷◌, ◌++◌, append_assoc, append-nil}
use native.Mathlib.Nat.{zero-add}
use native.Mathlib.Numerals.{add-one}
use native.Mathlib.Omega.{arith}
use lib.ListN.{length, take, drop, set, length-set}
use borrow.Rule.Slice.PartMut.{put_mid}
use Rattle.std.proofs.lemmas.List.{drop-drop}
use lib.Seq.{sets, sets-eq, set_out, length-sets}
use Rattle.script.specs.File.{records, numbered}
use Rattle.script.specs.Tables.{over}
use Rattle.file.specs.Written.{Put, PutWhole}
use Rattle.script.proofs.Numbered.{length_numbered, numbered_more}
use Rattle.file.proofs.RecordLaws.{Layout, records_length}

-- ---- bytes

sets_out : (vs l : List ℕ) (i : ℕ) → length l ≤ i → sets l i vs ≡ l
sets_out [] l i h = refl
sets_out (v ∷ vs) l i h =
    sets_out vs (set l i v) (suc i) (omega (arith, length-set l i v)) ∙ set_out l i v h

sets_append : (vs ws l : List ℕ) (i : ℕ) → sets l i (vs ++ ws) ≡ sets (sets l i vs) (i + length vs) ws
sets_append [] ws l i = ap (λ (n : ℕ). sets l n ws) (omega arith)
sets_append (v ∷ vs) ws l i =
    sets_append vs ws (set l i v) (suc i) ∙ ap (λ (n : ℕ). sets (sets (set l i v) (suc i) vs) n ws) (omega arith)

-- past the end
pub put_out : {l : List ℕ} {i : ℕ} (vs : List ℕ) → length l ≤ i → Put l i vs l
put_out vs h = record { puts = sym (sets_out vs _ _ h) }

-- one part, then the next behind it
pub put_both :
    {l k m vs ws : List ℕ} {i j : ℕ} → Put l i vs k → j ≡ i + length vs → Put k j ws m → Put l i (vs ++ ws) m
put_both {l} {k} {m} {vs} {ws} {i} p e q =
    record { puts = q.puts ∙ (λ x. sets (p.puts x) (e x) ws) ∙ sym (sets_append vs ws l i) }

-- all bytes or none
pub put_whole : {l m vs : List ℕ} {i n : ℕ} → length vs ≡ n → i + n ≤ length l → Put l i vs m → PutWhole l i vs m
put_whole e h p = record { puts = λ f. p; none = λ f. let z : ⊥ = omega (arith, e) in absurd z }

pub put_none : {l vs : List ℕ} {i n : ℕ} → length vs ≡ n → length l < i + n → PutWhole l i vs l
put_none e h = record { puts = λ f. let z : ⊥ = omega (arith, e) in absurd z; none = λ f. refl }

pub put_there : {l m vs : List ℕ} {i n : ℕ} → length vs ≡ n → i + n ≤ length l → PutWhole l i vs m → Put l i vs m
put_there e h p = p.puts (omega (arith, e))

-- stores at distances from a place, as straight-line code makes them
abbrev pub sets_at : List ℕ → ℕ → ℕ → List ℕ → List ℕ
sets_at l i k [] = l
sets_at l i k (v ∷ vs) = sets_at (set l (i + k) v) i (k + 1) vs

sets_at_lem : (vs l : List ℕ) (i k : ℕ) → sets_at l i k vs ≡ sets l (i + k) vs
sets_at_lem [] l i k = refl
sets_at_lem (v ∷ vs) l i k =
    sets_at_lem vs (set l (i + k) v) i (k + 1) ∙ ap (λ (n : ℕ). sets (set l (i + k) v) n vs) (omega arith)

pub put_places : (v : ℕ) (vs l : List ℕ) (i : ℕ) → Put l i (v ∷ vs) (sets_at (set l i v) i 1 vs)
put_places v vs l i = record { puts = sets_at_lem vs (set l i v) i 1 ∙ ap (λ (n : ℕ). sets (set l i v) n vs) (add-one i) }

-- a part of the output that other bytes take the place of
pub put_part : {vs ws l : List ℕ} {i k : ℕ} → ws ≡ vs → k ≡ length vs → i + k ≤ length l → Put l i vs (put_mid i k l ws)
put_part {vs} {l = l} {i} e n h =
    record {
      puts =
          rw (e, n, drop-drop (length vs) i l) (sym (append_assoc (take i l) vs _))
          ∙ sym (sets-eq vs l i (omega arith));
    }

-- from the first place on, with room for all
pub put_over : {vs l m : List ℕ} → Put l 0 vs m → length vs ≤ length l → m ≡ over vs l
unfolding over
put_over {vs} {l} p h =
    let e : 0 + length vs ≡ length vs = omega arith in
    p.puts ∙ sets-eq vs l 0 (omega arith) ∙ ap (λ (n : ℕ). vs ++ drop n l) e

-- ---- records

pub records_append :
    {A : Type 0} (f : A → List ℕ) (xs ys : List A) → records f (xs ++ ys) ≡ records f xs ++ records f ys
unfolding records
records_append f [] ys = refl
records_append f (x ∷ xs) ys =
    ap (λ (r : List ℕ). f x ++ r) (records_append f xs ys) ∙ sym (append_assoc (f x) (records f xs) (records f ys))

records_one_more :
    {A : Type 0} (f : A → List ℕ) (g : ℕ → A) (j : ℕ)
    → records f (numbered g 0 (j + 1)) ≡ records f (numbered g 0 j) ++ f (g j)
unfolding records
records_one_more f g j =
    rw (add-one j, numbered_more g 0 j, records_append f (numbered g 0 j) (g (0 + j) ∷ []), append-nil (f (g (0 + j))), zero-add j)

pub put_length : {l m vs : List ℕ} {i : ℕ} → Put l i vs m → length m ≡ length l
put_length {l} {m} {vs} {i} p = ap length p.puts ∙ length-sets l i vs

-- bytes that are equal may stand for each other
pub put_same : {l m vs ws : List ℕ} {i : ℕ} → vs ≡ ws → Put l i vs m → Put l i ws m
put_same {l} {m} {vs} {ws} {i} e p = subst (λ (bs : List ℕ). Put l i bs m) e p

-- the records of the first j things stand from o on, at first none; the next is set behind them, up to the last
pub put_no_record : {A : Type 0} (L : Layout A) (g : ℕ → A) (o : ℕ) (l : List ℕ) → Put l o (records L.write (numbered g 0 0)) l
unfolding records numbered
put_no_record L g o l = record { puts = refl }

pub put_record :
    {A : Type 0} (L : Layout A) (g : ℕ → A) (o j : ℕ) {l k m : List ℕ} {at : ℕ} {vs : List ℕ} → Put l o (records L.write (numbered g 0 j)) k
    → at ≡ o + L.size * j → vs ≡ L.write (g j) → Put k at vs m → Put l o (records L.write (numbered g 0 (j + 1))) m
put_record L g o j p a w q =
    let e : L.size * j ≡ length (records L.write (numbered g 0 j)) =
    sym (records_length L (numbered g 0 j) ∙ ap (λ (n : ℕ). L.size * n) (length_numbered g 0 j)) in
    rw (records_one_more L.write g j) (put_both p (a ∙ ap (λ (n : ℕ). o + n) e) (rw w at q))

pub put_records :
    {A : Type 0} (L : Layout A) (g : ℕ → A) (o : ℕ) {j n : ℕ} {l m : List ℕ} → Put l o (records L.write (numbered g 0 j)) m
    → j ≤ n → n ≤ j → Put l o (records L.write (numbered g 0 n)) m
put_records L g o {j} {n} p h k = let e : j ≡ n = omega arith in rw (← e) p
