-- Refusals of rows in their order, by the verdicts of the searches. Assumes nothing.
use Rattle.std.specs.Prelude.{Err, Ok}
use Prim.Native.Nat.{ℕ, suc, ◌≤◌, ◌<◌}
use mathlib.Core.Path.{◌≡◌, sym, ◌∙◌}
use mathlib.Core.Bool.{Bool, true, false}
use mathlib.Core.Option.{Option, some}
use mathlib.Core.Logic.{◌⊎◌, inl, inr}
use borrow.Author.Tests.{le-leb, lt-leb}
use Rattle.lambdamix.specs.Refusal as Lambdamix
use Rattle.lambdamix.specs.Refusal.{or_else, refused_unless, first_failing, refused_at}
use Rattle.script.specs.declared.Refusal.{Refusal}
use Rattle.script.specs.Answers.{Verdict}
use Rattle.script.specs.Verdicts.{refusal_of}
use Rattle.script.proofs.RefusalLaws.{pass_over}
use Rattle.script.proofs.Verdicts.{refused_tells_first, passed_tells_next}
use Rattle.bands.specs.Rows.{max_rows, band_at, band_right, above_before, joins_before, count_right, rows_refusal}
use Rattle.bands.specs.Calls.{Columns, rows_in, columns_long, columns_refusal}
use Rattle.bands.proofs.RowTests.{rows_length}

pub miscount : {m : ℕ} → (m < 1) ⊎ ((1 ≤ m) × (32 < m)) → count_right m ≡ false
unfolding count_right max_rows
miscount {m} (inl h) = rw (lt-leb 1 m h)
miscount {m} (inr h) = rw (le-leb 1 m h.0, lt-leb m 32 h.1)

module _ (m : ℕ) (x : Columns) where
  abbrev wrong : Option Lambdamix.Refusal
  wrong = refused_at 30 (first_failing (λ k. band_right (band_at (rows_in m x) k)) 0 m)

  abbrev over : Option Lambdamix.Refusal
  over = refused_at 31 (first_failing (above_before (rows_in m x)) 0 m)

  abbrev apart : Option Lambdamix.Refusal
  apart = refused_at 32 (first_failing (joins_before (rows_in m x)) 0 (suc m))

  by_count : rows_refusal (rows_in m x) ≡ or_else (refused_unless (count_right m) 30 0) (or_else wrong (or_else over apart))
  unfolding rows_refusal
  by_count = rw (rows_length m x)

  counted : 1 ≤ m → m ≤ max_rows → count_right m ≡ true
  unfolding count_right
  counted a b = rw (le-leb 1 m a, le-leb m max_rows b)

  pub wrong_told :
      {u w : Verdict} {f : Refusal} → refusal_of u ≡ wrong → 1 ≤ m → m ≤ max_rows → u ≡ Err f → w ≡ Err f →
      refusal_of w ≡ rows_refusal (rows_in m x)
  wrong_told h a b e d = refused_tells_first h (or_else over apart) e d ∙ sym (by_count ∙ pass_over 30 0 _ (counted a b))

  pub overlap_told :
      {u v w : Verdict} {f : Refusal} → refusal_of u ≡ wrong → refusal_of v ≡ over → 1 ≤ m → m ≤ max_rows → u ≡ (Ok tt) →
      v ≡ Err f → w ≡ Err f → refusal_of w ≡ rows_refusal (rows_in m x)
  overlap_told h k a b p e d =
      passed_tells_next h p (refused_tells_first k apart e d) ∙ sym (by_count ∙ pass_over 30 0 _ (counted a b))

  pub gap_told :
      {u v : Verdict} {r : Option Lambdamix.Refusal} → refusal_of u ≡ wrong → refusal_of v ≡ over → r ≡ apart → 1 ≤ m → m ≤ max_rows →
      u ≡ (Ok tt) → v ≡ (Ok tt) → r ≡ rows_refusal (rows_in m x)
  gap_told h k l a b p q = passed_tells_next h p (passed_tells_next k q l) ∙ sym (by_count ∙ pass_over 30 0 _ (counted a b))

  -- no rows, or more than 32
  pub miscounted : count_right m ≡ false → some (Lambdamix.refusal 30 0) ≡ rows_refusal (rows_in m x)
  unfolding refused_unless or_else
  miscounted h = sym (by_count ∙ rw h)

  -- ---- columns

  pub columns_long_lem :
      {t : Bool} {r : Option Lambdamix.Refusal} → t ≡ columns_long m x → t ≡ true → r ≡ rows_refusal (rows_in m x) → r ≡ columns_refusal m x
  unfolding columns_refusal refused_unless or_else
  columns_long_lem h e k = k ∙ rw (← h, e)

  pub columns_short : {t : Bool} → t ≡ columns_long m x → t ≡ false → some (Lambdamix.refusal 1 0) ≡ columns_refusal m x
  unfolding columns_refusal refused_unless or_else
  columns_short h e = rw (← h, e)
