-- ASCII texts and decimals as lists of bytes. Assumes nothing.
use Rattle.std.specs.Prelude.{ℕ, suc, ◌+◌, ◌/◌, ◌%◌, Bool, true, false, List, [], ◌∷◌, ◌++◌, ℤ, pos, negsuc, ltb}
use Prim.Native.Char.{code}
use Prim.Native.String as Str
use Prim.Native.String.{String}
use Rattle.lambdamix.specs.Falling.{falling}

-- the bytes of a text of ASCII characters
unfoldable pub ascii : String → List ℕ
ascii Str.[] = []
ascii (Str.◌∷◌ c s) = code c ∷ ascii s

unfoldable pub digits_by : Bool → (ℕ → List ℕ) → ℕ → List ℕ
digits_by true self n = (48 + n) ∷ []
digits_by false self n = self (n / 10) ++ ((48 + n % 10) ∷ [])

unfoldable pub digits_step : (ℕ → List ℕ) → ℕ → List ℕ
digits_step self n = digits_by (ltb n 10) self n

-- a number in decimal, without leading zeros
unfoldable pub digits : ℕ → List ℕ
digits = falling [] digits_step

-- "signed decimals"
unfoldable pub decimal : ℤ → List ℕ
decimal (pos n) = digits n
decimal (negsuc n) = 45 ∷ digits (suc n)
