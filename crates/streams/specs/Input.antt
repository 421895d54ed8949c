-- A program's standard input: paper 01, "Listing and program". "Program `benchmake` reads standard input: a script file, then a record `SV` plus a
-- 4-byte signed value per setting." Assumes nothing.
use Rattle.std.specs.Prelude.{ℕ, ◌+◌, ◌*◌, ◌/◌, ◌%◌, Bool, true, false, ◌&&◌, List, ℤ, length, take, drop, leb, eqb}
use Rattle.lambdamix.specs.Refusal.{first_failing}
use Rattle.script.specs.Bytes.{number32, signed32}
use Rattle.script.specs.File.{head_types, head_inputs, head_nodes, file_length, numbered}
use Rattle.script.specs.Refusals.{counts_right, marked, head_marked, is_none}

unfoldable pub head_right : List ℕ → Bool
head_right bs = leb 8 (length bs) && (head_marked bs 0 && counts_right (head_types bs) (head_inputs bs) (head_nodes bs))

unfoldable pub script_length_by : Bool → List ℕ → ℕ
script_length_by true bs = file_length (head_types bs) (head_inputs bs) (head_nodes bs)
script_length_by false bs = length bs

-- the script is as long as its head says; without a right head the whole input is the script
unfoldable pub script_length : List ℕ → ℕ
script_length bs = script_length_by (head_right bs) bs

unfoldable pub script_part : List ℕ → List ℕ
script_part bs = take (script_length bs) bs

unfoldable pub settings_part : List ℕ → List ℕ
settings_part bs = drop (script_length bs) bs

-- `SV`
unfoldable pub setting_marked : List ℕ → ℕ → Bool
setting_marked bs j = marked 83 86 bs (6 * j)

-- nothing but whole `SV` records
unfoldable pub whole_settings : List ℕ → Bool
whole_settings bs = eqb (length bs % 6) 0 && is_none (first_failing (setting_marked bs) 0 (length bs / 6))

unfoldable pub setting_at : List ℕ → ℕ → ℤ
setting_at bs j = signed32 (number32 bs (6 * j + 2))

unfoldable pub settings : List ℕ → List ℤ
settings bs = numbered (setting_at bs) 0 (length bs / 6)
