-- The lines that a program prints: paper 01, "Listing and program". Assumes nothing.
use Rattle.std.specs.Prelude.{ℕ, Bool, true, false, List, ◌++◌}
use Rattle.lambdamix.specs.Text.{ascii, digits}

-- two numbers, each behind its words
unfoldable pub pair_text : List ℕ → ℕ → List ℕ → ℕ → List ℕ
pair_text a x b y = a ++ digits x ++ b ++ digits y ++ ascii "\n"

-- "`refused 9 4` (number, place) alone, or `accepted` and `stopped 24 2`, each on its own line; 21 and 26 print as stops"
unfoldable pub unmade_text : Bool → ℕ → ℕ → List ℕ
unmade_text true n p = pair_text (ascii "refused ") n (ascii " ") p
unmade_text false n p = pair_text (ascii "accepted\nstopped ") n (ascii " ") p

-- the three lines before the listing
unfoldable pub counts_text : ℕ → ℕ → List ℕ
counts_text k n = pair_text (ascii "accepted\nsteps ") k (ascii "\nnodes ") n
