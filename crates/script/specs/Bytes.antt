-- Numbers as little-endian bytes, both ways: paper 01, "files are little-endian". Assumes nothing.
use Rattle.std.specs.Prelude.{ℕ, ◌+◌, ◌-◌, ◌*◌, ◌/◌, ◌%◌, Bool, true, false, List, [], ◌∷◌, ℤ, pos, negsuc, get_or, ltb}

unfoldable pub byte_at : List ℕ → ℕ → ℕ
byte_at bs i = get_or bs i 0

-- two bytes from place i on; past the end a byte is 0
unfoldable pub number16 : List ℕ → ℕ → ℕ
number16 bs i = byte_at bs i + 256 * byte_at bs (i + 1)

unfoldable pub number32 : List ℕ → ℕ → ℕ
number32 bs i = number16 bs i + 65536 * number16 bs (i + 2)

unfoldable pub signed_by : Bool → ℕ → ℤ
signed_by true w = pos w
signed_by false w = negsuc (4294967295 - w)

-- the signed number of 32 bits
unfoldable pub signed32 : ℕ → ℤ
signed32 w = signed_by (ltb w 2147483648) w

-- its bits
unfoldable pub bits32 : ℤ → ℕ
bits32 (pos n) = n
bits32 (negsuc n) = 4294967295 - n

unfoldable pub bytes16 : ℕ → List ℕ
bytes16 n = n % 256 ∷ n / 256 % 256 ∷ []

unfoldable pub bytes32 : ℕ → List ℕ
bytes32 n = n % 256 ∷ n / 256 % 256 ∷ n / 65536 % 256 ∷ n / 16777216 % 256 ∷ []
