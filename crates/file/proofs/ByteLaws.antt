-- Little-endian numbers are read as they were written and written as they were read; and where bytes stand in a longer list.
-- Assumes nothing.
use Prim.Native.Nat.{ℕ, zero, suc, ◌+◌, ◌-◌, ◌*◌, ◌/◌, ◌%◌, ◌<◌}
use mathlib.Core.Path.{◌≡◌, sym, ap, ◌∙◌}
use mathlib.Core.List.{List, [], ◌∷◌, ◌++◌}
use native.Mathlib.Omega.{arith}
use native.Mathlib.Decide.{dec_lt}
use lib.IntN.{ℤ}
use lib.ListN.{length, get_or, length-append, get_or-append}
use lib.Seq.{get_or-append-add, ext_get_or}
use lib.Dec.{lit<}
use Rattle.lambdamix.specs.Arithmetic.{Fits32}
use Rattle.script.proofs.WordLaws.{bits_small, signed_bits, signed_both}
use Rattle.script.specs.Bytes.{byte_at, number16, number32, signed32, bits32, bytes16, bytes32}
use Rattle.file.specs.Encodable.{AllBytes}

-- the bytes ys stand in bs from place o on
pub record Stands (bs : List ℕ) (o : ℕ) (ys : List ℕ) : Type 0 where
  pub at : (i : ℕ) → i < length ys → byte_at bs (o + i) ≡ get_or ys i 0

-- ---- one after the other

pub stands_left : {bs : List ℕ} {o : ℕ} (xs ys : List ℕ) → Stands bs o (xs ++ ys) → Stands bs o xs
stands_left xs ys s =
    record { at = λ i h. s.at i (omega (arith, length-append xs ys)) ∙ get_or-append xs ys 0 i h }

pub stands_right :
    {bs : List ℕ} {o : ℕ} (xs ys : List ℕ) → Stands bs o (xs ++ ys) → (m : ℕ) → m ≡ o + length xs → Stands bs m ys
stands_right {bs} {o} xs ys s m e =
    record {
      at =
          λ i h.
          ap (byte_at bs) (omega arith)
          ∙ s.at (length xs + i) (omega (arith, length-append xs ys))
          ∙ get_or-append-add xs ys i 0;
    }

pub stands_both :
    {bs : List ℕ} {o : ℕ} (xs ys : List ℕ) → Stands bs o xs → (m : ℕ) → m ≡ o + length xs → Stands bs m ys
    → Stands bs o (xs ++ ys)
stands_both {bs} {o} xs ys s m e t = record { at = λ i h. by i h (dec_lt i (length xs)) }
  where
    by : (i : ℕ) → i < length (xs ++ ys) → Dec (i < length xs) → byte_at bs (o + i) ≡ get_or (xs ++ ys) i 0
    by i h (yes l) = s.at i l ∙ sym (get_or-append xs ys 0 i l)
    by i h (no g) =
        let k = i - length xs in
        let p : i ≡ length xs + k = omega arith in
        ap (byte_at bs) (omega arith)
        ∙ t.at k (omega (arith, length-append xs ys))
        ∙ sym (get_or-append-add xs ys k 0)
        ∙ ap (λ (n : ℕ). get_or (xs ++ ys) n 0) (sym p)

pub stands_nil : {bs : List ℕ} {o : ℕ} → Stands bs o []
stands_nil = record { at = λ i h. let z : ⊥ = omega arith in absurd z }

pub stands_cons :
    {bs : List ℕ} {o y : ℕ} {ys : List ℕ} → byte_at bs o ≡ y → Stands bs (o + 1) ys → Stands bs o (y ∷ ys)
stands_cons {bs} {o} {y} {ys} e s = record { at = by }
  where
    by : (i : ℕ) → i < length (y ∷ ys) → byte_at bs (o + i) ≡ get_or (y ∷ ys) i 0
    by zero h = ap (byte_at bs) (omega arith) ∙ e
    by (suc i) h = ap (byte_at bs) (omega arith) ∙ s.at i (omega arith)

-- bytes stand in themselves, and only there if they are as many
pub stands_self : (bs : List ℕ) → Stands bs 0 bs
unfolding byte_at
stands_self bs = record { at = λ i h. ap (λ (n : ℕ). get_or bs n 0) (omega arith) }

pub stands_whole : {bs ys : List ℕ} → Stands bs 0 ys → length ys ≡ length bs → ys ≡ bs
unfolding byte_at
stands_whole {bs} {ys} s e =
    ext_get_or 0 ys bs e (λ i h. sym (s.at i h) ∙ ap (λ (n : ℕ). get_or bs n 0) (omega arith))

-- ---- numbers of 16 bits

joined : (v : ℕ) → v < 65536 → v % 256 + 256 * (v / 256 % 256) ≡ v
joined v h = omega arith

-- read as written
pub number16_at : {bs : List ℕ} {o v : ℕ} → Stands bs o (bytes16 v) → v < 65536 → number16 bs o ≡ v
unfolding number16 bytes16
number16_at {bs} {o} {v} s h =
    let p : byte_at bs o ≡ v % 256 = ap (byte_at bs) (omega arith) ∙ s.at 0 (lit< tt) in
    let q : byte_at bs (o + 1) ≡ v / 256 % 256 = s.at 1 (lit< tt) in
    omega (arith, joined v h)

-- written as read
pub stands16 : {bs : List ℕ} → AllBytes bs → (o : ℕ) → Stands bs o (bytes16 (number16 bs o))
unfolding number16 bytes16
stands16 {bs} all o =
    let p = all.below o in
    let q = all.below (o + 1) in
    stands_cons (omega arith) (stands_cons (omega arith) stands_nil)

pub number16_small : {bs : List ℕ} → AllBytes bs → (o : ℕ) → number16 bs o < 65536
unfolding number16
number16_small all o = omega (arith, all.below o, all.below (o + 1))

-- ---- signed numbers of 32 bits

-- read as written
pub number32_at : {bs : List ℕ} {o v : ℕ} → Stands bs o (bytes32 v) → v < 4294967296 → number32 bs o ≡ v
unfolding number32 number16 bytes32
number32_at {bs} {o} {v} s h =
    let p : byte_at bs o ≡ v % 256 = ap (byte_at bs) (omega arith) ∙ s.at 0 (lit< tt) in
    let q : byte_at bs (o + 1) ≡ v / 256 % 256 = s.at 1 (lit< tt) in
    let r : byte_at bs (o + 2) ≡ v / 65536 % 256 = s.at 2 (lit< tt) in
    let t : byte_at bs (o + 2 + 1) ≡ v / 16777216 % 256 = ap (byte_at bs) (omega arith) ∙ s.at 3 (lit< tt) in
    let low : v % 256 + 256 * (v / 256 % 256) ≡ v % 65536 = omega arith in
    let top : v / 16777216 ≡ v / 65536 / 256 = omega arith in
    let high : v / 65536 % 256 + 256 * (v / 16777216 % 256) ≡ v / 65536 = rw top (joined (v / 65536) (omega arith)) in
    omega arith

-- written as read
stands32 : {bs : List ℕ} → AllBytes bs → (o : ℕ) → Stands bs o (bytes32 (number32 bs o))
unfolding number32 number16 bytes32
stands32 {bs} all o =
    let p = all.below o in
    let q = all.below (o + 1) in
    let r = all.below (o + 2) in
    let s = all.below (o + 2 + 1) in
    let e : byte_at bs (o + 1 + 1) ≡ byte_at bs (o + 2) = ap (byte_at bs) (omega arith) in
    let f : byte_at bs (o + 1 + 1 + 1) ≡ byte_at bs (o + 2 + 1) = ap (byte_at bs) (omega arith) in
    stands_cons (omega arith)
    (stands_cons (omega arith) (stands_cons (omega arith) (stands_cons (omega arith) stands_nil)))

number32_small : {bs : List ℕ} → AllBytes bs → (o : ℕ) → number32 bs o < 4294967296
unfolding number32
number32_small all o = omega (arith, number16_small all o, number16_small all (o + 2))

-- the signed value at a place: read as written, written as read, and within the range
pub value_at_lem : {bs : List ℕ} {o : ℕ} {z : ℤ} → Stands bs o (bytes32 (bits32 z)) → Fits32 z → signed32 (number32 bs o) ≡ z
value_at_lem {bs} {o} {z} s h = ap signed32 (number32_at s (bits_small z h)) ∙ signed_bits z h

pub value_stands : {bs : List ℕ} → AllBytes bs → (o : ℕ) → Stands bs o (bytes32 (bits32 (signed32 (number32 bs o))))
value_stands {bs} all o = rw (signed_both (number32 bs o) (number32_small all o)).0 (stands32 all o)

pub value_small : {bs : List ℕ} → AllBytes bs → (o : ℕ) → Fits32 (signed32 (number32 bs o))
value_small {bs} all o = (signed_both (number32 bs o) (number32_small all o)).1
