-- What is refused, with number and place: paper 01, "Replies without code": "Of one number the lowest place is told." Assumes nothing.
use Rattle.std.specs.Prelude.{ℕ, zero, suc, Bool, true, false}
use Rattle.std.proofs.Math.Option.{Option, none, some}

-- a number and a place
pub record Refusal : Type 0 where
  pub number : ℕ
  pub place : ℕ

abbrev pub refusal : ℕ → ℕ → Refusal
refusal k p = record { number = k; place = p }

-- one after another: what is refused first is told
unfoldable pub or_else : {A : Type 0} → Option A → Option A → Option A
or_else none r = r
or_else (some a) r = some a

-- a refusal, unless a test holds
unfoldable pub refused_unless : Bool → ℕ → ℕ → Option Refusal
refused_unless true k p = none
refused_unless false k p = some (record { number = k; place = p })

unfoldable pub first_by : Bool → ℕ → Option ℕ → Option ℕ
first_by true i r = r
first_by false i r = some i

-- the first of the n numbers from i at which a test fails
unfoldable pub first_failing : (ℕ → Bool) → ℕ → ℕ → Option ℕ
first_failing p i zero = none
first_failing p i (suc n) = first_by (p i) i (first_failing p (suc i) n)

unfoldable pub refused_at : ℕ → Option ℕ → Option Refusal
refused_at k none = none
refused_at k (some i) = some (record { number = k; place = i })
