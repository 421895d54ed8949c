-- The settings as the maker is given them: what is not whole `SV` records, and more settings than a script has inputs, count as one
-- more than the inputs that a script may have, so that 12 is told in its place. Assumes nothing.
use Rattle.std.specs.Prelude.{ℕ, ◌+◌, ◌/◌, Bool, true, false, ◌&&◌, List, ℤ, length, ltb}
use Rattle.lambdamix.specs.Limits.{max_inputs}
use Rattle.script.specs.File.{numbered}
use Rattle.streams.specs.Input.{whole_settings, setting_at}

-- room for one setting more than a script has inputs
unfoldable pub program_settings : ℕ
program_settings = max_inputs + 1

unfoldable pub given_by : Bool → ℕ → ℕ
given_by true k = k
given_by false k = program_settings

unfoldable pub given_count : List ℕ → ℕ
given_count bs = given_by (ltb (length bs / 6) program_settings && whole_settings bs) (length bs / 6)

unfoldable pub given_settings : List ℕ → List ℤ
given_settings bs = numbered (setting_at bs) 0 (given_count bs)
