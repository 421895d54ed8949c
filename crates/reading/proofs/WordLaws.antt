-- Bytes and words past the end are 0. Assumes nothing.
use Prim.Native.Nat.{ℕ, ◌+◌, ◌≤◌, ◌<◌, min}
use mathlib.Core.Path.{◌≡◌, sym, ap, ◌∙◌}
use mathlib.Core.List.{List}
use native.Mathlib.Omega.{arith}
use native.Mathlib.Decide.{dec_lt}
use lib.ListN.{length, get_or, get_or-eq_default}
use Rattle.script.specs.Bytes.{byte_at, number16}

byte_past : (bs : List ℕ) (i : ℕ) → length bs ≤ i → byte_at bs i ≡ 0
unfolding byte_at
byte_past bs i h = get_or-eq_default bs 0 h

-- the byte behind a place, by a number that goes no higher than a place may
pub byte_behind :
    (bs : List ℕ) (i : ℕ) {k : ℕ} → length bs < 18446744073709551615 → k ≡ min (i + 1) 18446744073709551615 → get_or bs k 0 ≡ byte_at bs (i + 1)
unfolding byte_at
byte_behind bs i {k} h e = by (dec_lt k 18446744073709551615)
  where
    by : Dec (k < 18446744073709551615) → get_or bs k 0 ≡ get_or bs (i + 1) 0
    by (yes l) = ap (λ (n : ℕ). get_or bs n 0) (omega arith)
    by (no g) =
        let p : length bs ≤ k = omega arith in
        let q : length bs ≤ i + 1 = omega arith in
        get_or-eq_default bs 0 p ∙ sym (get_or-eq_default bs 0 q)

pub number16_past : (bs : List ℕ) (i : ℕ) → length bs ≤ i → number16 bs i ≡ 0
unfolding number16
number16_past bs i h = omega (arith, byte_past bs i h, byte_past bs (i + 1) (omega arith))

-- the word two bytes behind a place, likewise
pub word_behind :
    (bs : List ℕ) (i : ℕ) {k : ℕ} → length bs < 18446744073709551615 → k ≡ min (i + 2) 18446744073709551615 → number16 bs k ≡ number16 bs (i + 2)
word_behind bs i {k} h e = by (dec_lt k 18446744073709551615)
  where
    by : Dec (k < 18446744073709551615) → number16 bs k ≡ number16 bs (i + 2)
    by (yes l) = ap (number16 bs) (omega arith)
    by (no g) = number16_past bs k (omega arith) ∙ sym (number16_past bs (i + 2) (omega arith))
