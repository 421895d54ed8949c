-- A number's digits, one after the other: what each round of the loop promises, and all of them. No public promise cites this file. Assumes nothing.
use Rattle.std.specs.Prelude.{ℕ, suc, ◌+◌, ◌*◌, ◌^◌, ◌≤◌, ◌<◌, ◌≡◌, List, set}
use Rattle.lambdamix.specs.Text.{digits}
use Rattle.text.specs.declared.Decimal.{Decimal}
use Rattle.text.specs.Places.{Put}

-- a digit d behind n bytes, and how many stand then: a zero in front of all others is passed over
pub data NextDigit (d : ℕ) : ℕ → List ℕ → List ℕ → ℕ → Type 0 where
  passed_over : {n : ℕ} {x : List ℕ} → d ≡ 0 → n ≡ 0 → NextDigit d n x x n
  stands : {n : ℕ} {x y : List ℕ} → (d ≡ 0 → 1 ≤ n) → y ≡ set x n (48 + d) → NextDigit d n x y (n + 1)

-- a whole, in the units of a fraction
abbrev pub one : ℕ
one = 4294967296

-- t, in those units, stands for x / 10^k: it lies from there to below (x + 1) / 10^k, and x has at most k + 1 digits
pub record Fraction (t k x : ℕ) : Type 0 where
  pub below : x < 10 ^ suc k
  pub low : one * x ≤ t * 10 ^ k
  pub high : t * 10 ^ k < one * suc x

-- the digits of the number that a fraction is of are put, in as many rounds as digits follow its first
pub record Draws (t k : ℕ) (before after : List ℕ) (r : Decimal) : Type 0 where
  pub put : (x : ℕ) → Fraction t k x → Put (digits x) before after r.length
  pub rounds : r.rounds ≡ k
