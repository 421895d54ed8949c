-- What one reading of each number of a column shows: it has 32 bits; and the widths of lent tables by those of their columns.
-- Assumes nothing.
use Prim.Native.Nat.{ℕ, ◌+◌, ◌<◌}
use mathlib.Core.Path.{◌≡◌, subst}
use mathlib.Core.Bool.{false}
use mathlib.Core.List.{List}
use mathlib.Core.Logic.{⊎_elim}
use native.Mathlib.Omega.{arith}
use lib.IntN.{ℤ, pos}
use lib.ListN.{length, get_or}
use lib.Dec.{ltb}
use borrow.Author.Tests.{ltb-true, ltb-false}
use Rattle.lambdamix.specs.Arithmetic.{Fits32}
use Rattle.lambdamix.proofs.Tests.{holds_or_fails}
use Rattle.script.proofs.Rows.{everywhere}
use Rattle.script.specs.Tables.{row_type, row_input, row_node, tables_of}
use Rattle.script.specs.Widths.{AllBelow, AllFit, LentTables}

pub one_more_fits :
    (s : List ℤ) {i : ℕ} → ((j : ℕ) → j < i → Fits32 (get_or s j (pos 0))) → Fits32 (get_or s i (pos 0)) →
    (j : ℕ) → j < i + 1 → Fits32 (get_or s j (pos 0))
one_more_fits s {i} h f j l = ⊎_elim (λ e. h j (ltb-true j i e)) last (holds_or_fails (ltb j i))
  where
    last : ltb j i ≡ false → Fits32 (get_or s j (pos 0))
    last e = let q : i ≡ j = omega (arith, ltb-false j i e, l) in subst (λ j. Fits32 (get_or s j (pos 0))) q f

-- past the end a column reads 0
pub all_fit : {s : List ℤ} → ((j : ℕ) → j < length s → Fits32 (get_or s j (pos 0))) → AllFit s
all_fit {s} h = record { fits = everywhere (λ (z : ℤ). Fits32 z) (pos 0) s (omega arith) h }

pub lent_by :
    {t i n : ℕ} {ps rs is ks xs ys zs : List ℕ} {vs : List ℤ} → t < 65536 → i < 65536 → n < 65536 → AllBelow 65536 ps → AllBelow 65536 rs →
    AllBelow 65536 is → AllBelow 256 ks → AllBelow 65536 xs → AllBelow 65536 ys → AllBelow 65536 zs → AllFit vs →
    LentTables t i n (tables_of ps rs is ks xs ys zs vs)
unfolding row_type row_input row_node
lent_by t i n ps rs is ks xs ys zs vs =
    record {
      type_count = t;
      input_count = i;
      node_count = n;
      types = λ j. record { parameter = ps j; result = rs j };
      inputs = is;
      nodes = λ j. record { kind = ks j; a = xs j; b = ys j; c = zs j; value = vs.fits j };
    }
