-- Spans of places, each from its first to its last: spans that follow one another without a gap from lo to hi are those of which each place from lo
-- to hi lies in exactly one. Assumes nothing.
use Prim.Native.Nat.{ℕ, zero, suc, ◌+◌, ◌≤◌, ◌<◌}
use mathlib.Core.Path.{◌≡◌, refl}
use mathlib.Core.Logic.{◌⊎◌, inl, inr, ⊎_elim}
use native.Mathlib.Omega.{arith}
use lib.Dec.{leb, ltb}
use borrow.Author.Tests.{leb-true, leb-false, ltb-true, ltb-false}
use Rattle.lambdamix.proofs.Tests.{holds_or_fails}

module _ (first last : ℕ → ℕ) (m : ℕ) where
  -- z lies in span i
  pub record In (z i : ℕ) : Type 0 where
    pub row : i < m
    pub from : first i ≤ z
    pub to : z ≤ last i

  -- each span ends before the next begins
  abbrev pub Apart : Type 0
  Apart = (k : ℕ) → suc k < m → last k < first (suc k)

  abbrev pub Ordered : Type 0
  Ordered = (k : ℕ) → k < m → first k ≤ last k

  -- ---- then none of two holds what the other does

  module _ (ordered : Ordered) (apart : Apart) where
    pub before : (i j : ℕ) → i < j → j < m → last i < first j
    before i zero h l = let z : ⊥ = omega arith in absurd z
    before i (suc j) h l =
        ⊎_elim (λ t. omega (arith, before i j (ltb-true i j t) (omega arith), ordered j (omega arith), apart j l))
        (λ t. let e : i ≡ j = omega (arith, ltb-false i j t) in rw e (apart j l)) (holds_or_fails (ltb i j))

    pub one_alone : {z i j : ℕ} → In z i → In z j → i ≡ j
    one_alone {z} {i} {j} p q =
        ⊎_elim (λ t. let c : ⊥ = omega (arith, before i j (ltb-true i j t) q.row, p.to, q.from) in absurd c)
        (λ t.
        ⊎_elim (λ u. let c : ⊥ = omega (arith, before j i (ltb-true j i u) p.row, q.to, p.from) in absurd c)
        (λ u. omega (arith, ltb-false i j t, ltb-false j i u)) (holds_or_fails (ltb j i)))
        (holds_or_fails (ltb i j))

  -- ---- and without gaps each place lies in one

  module _
      (lo hi : ℕ)
      (begins : first 0 ≤ lo)
      (joined : (k : ℕ) → suc k < m → first (suc k) ≤ last k + 1)
      (ends : (k : ℕ) → suc k ≡ m → hi ≤ last k)
    where
      -- z is past all spans before k
      abbrev Past : ℕ → ℕ → Type 0
      Past z k = (j : ℕ) → suc j ≡ k → last j < z

      reaches : (z k : ℕ) → lo ≤ z → k < m → Past z k → first k ≤ z
      reaches z zero h l p = omega arith
      reaches z (suc k) h l p = omega (arith, joined k l, p k refl)

      found_or_past : (z k : ℕ) → lo ≤ z → k ≤ m → ((i : ℕ) × In z i) ⊎ Past z k
      found_or_past z zero h l = inr (λ j e. let c : ⊥ = omega arith in absurd c)
      found_or_past z (suc k) h l = ⊎_elim inl (λ p. by p) (found_or_past z k h (omega arith))
        where
          by : Past z k → ((i : ℕ) × In z i) ⊎ Past z (suc k)
          by p =
              ⊎_elim (λ t. inl (k, record { row = omega arith; from = reaches z k h (omega arith) p; to = leb-true z (last k) t }))
              (λ t. inr (λ j e. let q : j ≡ k = omega arith in rw q (leb-false z (last k) t))) (holds_or_fails (leb z (last k)))

      pub each_found : 1 ≤ m → (z : ℕ) → lo ≤ z → z ≤ hi → (i : ℕ) × In z i
      each_found a z h l = ⊎_elim (λ f. f) (λ p. past_all m refl p) (found_or_past z m h (omega arith))
        where
          past_all : (k : ℕ) → k ≡ m → Past z k → (i : ℕ) × In z i
          past_all zero e p = let c : ⊥ = omega arith in absurd c
          past_all (suc k) e p = let c : ⊥ = omega (arith, ends k e, p k refl) in absurd c

  -- ---- the other way: rising spans of which each place lies in exactly one

  module _
      (ordered : Ordered)
      (rising : (k : ℕ) → suc k < m → first k < first (suc k))
      (lo hi : ℕ)
      (above : (k : ℕ) → k < m → lo ≤ first k)
      (below : (k : ℕ) → k < m → first k ≤ hi)
      (found : (z : ℕ) → lo ≤ z → z ≤ hi → (i : ℕ) × In z i)
      (alone : (z i j : ℕ) → lo ≤ z → z ≤ hi → In z i → In z j → i ≡ j)
    where
      first_rises : (i j : ℕ) → i ≤ j → j < m → first i ≤ first j
      first_rises i zero h l = let e : i ≡ 0 = omega arith in rw e (omega arith)
      first_rises i (suc j) h l =
          ⊎_elim (λ t. lower (first_rises i j (leb-true i j t) (omega arith))) (λ t. same (leb-false i j t)) (holds_or_fails (leb i j))
        where
          lower : first i ≤ first j → first i ≤ first (suc j)
          lower d = omega (arith, d, rising j l)

          same : j < i → first i ≤ first (suc j)
          same d = let e : i ≡ suc j = omega arith in rw e (omega arith)

      pub apart_then : Apart
      apart_then k l =
          ⊎_elim (λ t. ltb-true (last k) (first (suc k)) t) (λ t. absurd (both (ltb-false (last k) (first (suc k)) t)))
          (holds_or_fails (ltb (last k) (first (suc k))))
        where
          both : first (suc k) ≤ last k → ⊥
          both h =
              let p : In (first (suc k)) k = record { row = omega arith; from = omega (arith, rising k l); to = h } in
              let q : In (first (suc k)) (suc k) = record { row = l; from = omega arith; to = ordered (suc k) l } in
              let e : k ≡ suc k = alone (first (suc k)) k (suc k) (above (suc k) l) (below (suc k) l) p q in
              omega arith

      pub begins_then : 1 ≤ m → lo ≤ hi → first 0 ≤ lo
      begins_then a h = let (i, p) = found lo (omega arith) h in omega (arith, first_rises 0 i (omega arith) p.row, p.from)

      last_rises : (i j : ℕ) → i ≤ j → j < m → last i ≤ last j
      last_rises i j h l = ⊎_elim (λ t. lower (ltb-true i j t)) (λ t. same (ltb-false i j t)) (holds_or_fails (ltb i j))
        where
          lower : i < j → last i ≤ last j
          lower d = omega (arith, before ordered apart_then i j d l, ordered j l)

          same : j ≤ i → last i ≤ last j
          same d = let e : i ≡ j = omega arith in rw e (omega arith)

      pub joined_then : (k : ℕ) → suc k < m → first (suc k) ≤ last k + 1
      joined_then k l =
          let (i, p) = found (last k + 1) (omega (arith, above k (omega arith), ordered k (omega arith))) (omega (arith, apart_then k l, below (suc k) l)) in
          ⊎_elim (λ t. late i p (leb-true (suc k) i t)) (λ t. absurd (early i p (leb-false (suc k) i t))) (holds_or_fails (leb (suc k) i))
        where
          late : (i : ℕ) → In (last k + 1) i → suc k ≤ i → first (suc k) ≤ last k + 1
          late i p d = omega (arith, first_rises (suc k) i d p.row, p.from)

          early : (i : ℕ) → In (last k + 1) i → i < suc k → ⊥
          early i p d = omega (arith, last_rises i k (omega arith) (omega arith), p.to)

      pub ends_then : lo ≤ hi → (k : ℕ) → suc k ≡ m → hi ≤ last k
      ends_then h k e = let (i, p) = found hi h (omega arith) in omega (arith, last_rises i k (omega (arith, p.row)) (omega arith), p.to)
