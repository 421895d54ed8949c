-- A node in one word of 64 bits, as the checks and the machine read it: its kind over its three fields, or a constant's 32 bits
-- under the kind 0. Assumes nothing.
use Rattle.std.specs.Prelude.{ℕ, ◌+◌, ◌*◌, ◌/◌, ◌%◌, ◌<◌, ◌≡◌, List, ℤ, get_or}
use Rattle.lambdamix.specs.Script.{Node}
use Rattle.script.specs.Bytes.{signed32}

unfoldable pub word : ℕ → ℕ → ℕ → ℕ → ℕ
word k a b c = 281474976710656 * k + (4294967296 * a + (65536 * b + c))

unfoldable pub word_kind : ℕ → ℕ
word_kind w = w / 281474976710656

unfoldable pub word_a : ℕ → ℕ
word_a w = w / 4294967296 % 65536

unfoldable pub word_b : ℕ → ℕ
word_b w = w / 65536 % 65536

unfoldable pub word_c : ℕ → ℕ
word_c w = w % 65536

unfoldable pub word_value : ℕ → ℤ
word_value w = signed32 (w % 4294967296)

-- what a walk or a run reads of each node, by its number
pub record Columns : Type 0 where
  pub kind : ℕ → ℕ
  pub a : ℕ → ℕ
  pub b : ℕ → ℕ
  pub c : ℕ → ℕ
  pub value : ℕ → ℤ

-- the columns of nodes in words; the fields of a constant's word are parts of its value, and have no use
abbrev pub columns_in : List ℕ → Columns
columns_in ws =
    record {
      kind = λ i. word_kind (get_or ws i 0);
      a = λ i. word_a (get_or ws i 0);
      b = λ i. word_b (get_or ws i 0);
      c = λ i. word_c (get_or ws i 0);
      value = λ i. word_value (get_or ws i 0);
    }

-- The word holds the node: its kind, and of a constant the value, of any other node the fields.
pub record Holds (w : ℕ) (d : Node) : Type 0 where
  pub kind : word_kind w ≡ d.kind
  pub a : (d.kind ≡ 0 → ⊥) → word_a w ≡ d.a
  pub b : (d.kind ≡ 0 → ⊥) → word_b w ≡ d.b
  pub c : (d.kind ≡ 0 → ⊥) → word_c w ≡ d.c
  pub value : d.kind ≡ 0 → word_value w ≡ d.value

-- The first n words hold the first n nodes.
pub record Packed (n : ℕ) (nodes : ℕ → Node) (ws : List ℕ) : Type 0 where
  pub each : (j : ℕ) → j < n → Holds (get_or ws j 0) (nodes j)
