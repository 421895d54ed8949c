-- A loop that fills a column from the front: what the column holds as it goes, and at the end. Assumes nothing.
use Prim.Native.Nat.{ℕ, suc, ◌+◌, ◌<◌, ◌≤◌}
use mathlib.Core.Path.{◌≡◌, refl, sym, ap, ◌∙◌}
use mathlib.Core.List.{List, [], ◌∷◌, ◌++◌}
use native.Mathlib.Nat.{zero-add}
use native.Mathlib.Numerals.{add-one}
use native.Mathlib.Omega.{arith}
use lib.ListN.{length, get_or, drop, set}
use lib.Seq.{drop-cons, set_at, append_snoc}
use Rattle.script.specs.File.{numbered}
use Rattle.script.specs.Tables.{over}
use Rattle.script.proofs.Numbered.{length_numbered, numbered_more}

module _ {A : Type 0} (f : ℕ → A) where
  over_is : (n : ℕ) (old : List A) → over (numbered f 0 n) old ≡ numbered f 0 n ++ drop n old
  unfolding over
  over_is n old = rw (length_numbered f 0 n)

  over_more : (j : ℕ) (old : List A) → j < length old → set (over (numbered f 0 j) old) j (f j) ≡ over (numbered f 0 (suc j)) old
  over_more j old h =
      rw (over_is j old, over_is (suc j) old, drop-cons old j (f j) h, numbered_more f 0 j)
      (set_at (numbered f 0 j) (get_or old j (f j)) (drop (suc j) old) (f j) j (length_numbered f 0 j)
      ∙ sym (ap (λ (k : ℕ). numbered f 0 j ++ (f k ∷ []) ++ drop (suc j) old) (zero-add j) ∙ append_snoc (numbered f 0 j) (f j) (drop (suc j) old)))

  -- nothing is filled at first; the place that comes next is filled behind those before it; and at the end as many are as were to be
  pub fill_begins : (old : List A) → old ≡ over (numbered f 0 0) old
  unfolding over numbered
  fill_begins old = refl

  pub fill_goes_on : (old : List A) {j : ℕ} {now : List A} {v : A}
      → now ≡ over (numbered f 0 j) old → j < length old → v ≡ f j → set now j v ≡ over (numbered f 0 (j + 1)) old
  fill_goes_on old {j} s h e = rw (e, s, add-one j) (over_more j old h)

  pub fill_ends : (old : List A) {j n : ℕ} {now : List A} → now ≡ over (numbered f 0 j) old → j ≤ n → n ≤ j → now ≡ over (numbered f 0 n) old
  fill_ends old s l h = s ∙ ap (λ (k : ℕ). over (numbered f 0 k) old) (omega arith)
