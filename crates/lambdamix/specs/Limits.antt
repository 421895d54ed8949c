-- The limits of paper 01, "Script file", "Making" and "Listing and program". Each stands here alone. Assumes nothing.
use Rattle.std.specs.Prelude.{ℕ}

-- "Limits: 64 listed types, 16 inputs, 1 to 4,096 nodes, height 256"
unfoldable pub max_types : ℕ
max_types = 64

unfoldable pub max_inputs : ℕ
max_inputs = 16

unfoldable pub max_nodes : ℕ
max_nodes = 4096

unfoldable pub max_height : ℕ
max_height = 256

-- "then depth (at most 2,000)"
unfoldable pub max_depth : ℕ
max_depth = 2000

-- "13: fuel above 16,000"
unfoldable pub max_fuel : ℕ
max_fuel = 16000

-- "its fuel is 4,000"
unfoldable pub program_fuel : ℕ
program_fuel = 4000

-- "no listing passes 65,536 bytes"; as many the program takes of its input, lends for a made file and prints at most
unfoldable pub max_bytes : ℕ
max_bytes = 65536
