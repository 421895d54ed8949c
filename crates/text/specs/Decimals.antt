-- What the writers of numbers promise: the decimal stands, and "for one number all loops together take at most ten rounds" (paper 02, 2.3). Assumes
-- nothing.
use Rattle.std.specs.Prelude.{ℕ, ◌+◌, ◌*◌, ◌^◌, ◌≤◌, ◌<◌, List}
use Rattle.lambdamix.specs.Text.{digits}
use Rattle.text.specs.declared.Decimal.{Decimal}
use Rattle.text.specs.Places.{Put}

-- the rounds of all loops together for a number of 32 bits
unfoldable pub most_rounds : ℕ
most_rounds = 10

-- a decimal is put, in at most so many rounds
pub record PutNumber (text before after : List ℕ) (r : Decimal) : Type 0 where
  pub put : Put text before after r.length
  pub rounds : r.rounds ≤ most_rounds

-- a number of up to 64 bits is put: as many rounds more as it has digits beyond 32 bits
pub record PutLong (x : ℕ) (before after : List ℕ) (r : Decimal) : Type 0 where
  pub put : Put (digits x) before after r.length
  pub rounds : (k : ℕ) → x < 4294967296 * 10 ^ k → r.rounds ≤ most_rounds + k
