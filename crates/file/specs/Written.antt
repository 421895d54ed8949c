-- What the writer's parts do: a record by its number in the columns that hold its parts, and bytes put at a place of the
-- output. Assumes nothing.
use Rattle.std.specs.Prelude.{ℕ, ◌+◌, ◌≤◌, ◌<◌, ◌≡◌, List, ◌∷◌, ◌++◌, length}
use Rattle.std.proofs.lemmas.List.Edits.{sets}
use Rattle.lambdamix.specs.Text.{ascii}
use Rattle.script.specs.Bytes.{bytes16, bytes32}

-- the head for three counts
unfoldable pub head_row : ℕ → ℕ → ℕ → List ℕ
head_row t i n = ascii "HD" ++ (bytes16 t ++ (bytes16 i ++ bytes16 n))

-- a node's record for its kind, its fields and its value's bits
unfoldable pub node_parts : ℕ → ℕ → ℕ → ℕ → ℕ → List ℕ
node_parts k a b c w = ascii "ND" ++ (k ∷ (bytes16 a ++ (bytes16 b ++ (bytes16 c ++ bytes32 w))))

-- after is before with bytes from place i on; past the end nothing is put
pub record Put (before : List ℕ) (i : ℕ) (bs : List ℕ) (after : List ℕ) : Type 0 where
  pub puts : after ≡ sets before i bs

-- the same where there is room for all bytes, else nothing
pub record PutWhole (before : List ℕ) (i : ℕ) (bs : List ℕ) (after : List ℕ) : Type 0 where
  pub puts : i + length bs ≤ length before → Put before i bs after
  pub none : length before < i + length bs → after ≡ before
