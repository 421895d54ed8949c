-- Where the script ends, and how many settings are given, by the tests of the code. Assumes nothing.
use Rattle.std.specs.Prelude.{None, Some}
use Rattle.std.specs.Option.{is_some}
use Prim.Native.Nat.{ℕ, ◌/◌, ◌%◌, ◌≤◌, min}
use mathlib.Core.Path.{◌≡◌, refl, sym, ap, ◌∙◌}
use mathlib.Core.Bool.{Bool, true, false, ◌&&◌, not, true≢false}
use mathlib.Core.List.{List}
use native.Mathlib.Omega.{arith}
use lib.IntN.{ℤ}
use lib.ListN.{length, take, drop, drop_of_length-le}
use lib.Seq.{take_at, take_all}
use lib.Dec.{leb, ltb, eqb}
use borrow.Author.Tests.{ltb-true, leb-true, leb-false}
use Rattle.lambdamix.specs.Refusal.{first_failing}
use Rattle.script.specs.File.{numbered, head_types, head_inputs, head_nodes}
use Rattle.script.specs.Refusals.{head_marked, counts_right, is_none}
use Rattle.script.specs.Tables.{over}
use Rattle.script.specs.Answers.{Found}
use Rattle.script.specs.Verdicts.{found_at}
use Rattle.script.proofs.Numbered.{length_numbered}
use Rattle.streams.specs.Input.{head_right, script_length_by, script_length, whole_settings, setting_marked, setting_at}
use Rattle.streams.specs.Given.{program_settings}
use Rattle.streams.specs.Given.{given_by, given_count, given_settings}

-- where a script begins, and that it ends within its input
pub from_start : (e : ℕ) → 0 ≤ e
from_start e = omega arith

pub end_within : (k n : ℕ) {e : ℕ} → e ≡ min k n → e ≤ n
end_within k n h = omega arith

-- what finds nothing
pub none_found : (r : Found) {b : Bool} → is_some r ≡ not b → b ≡ is_none (found_at r)
unfolding is_none found_at
none_found None {b = true} e = refl
none_found None {b = false} e = absurd (true≢false (sym e))
none_found (Some i) {b = true} e = absurd (true≢false e)
none_found (Some i) {b = false} e = refl

module _ (bs : List ℕ) where
  pub length_by :
      {a b c : Bool} → leb 8 (length bs) ≡ a → head_marked bs 0 ≡ b → counts_right (head_types bs) (head_inputs bs) (head_nodes bs) ≡ c →
      script_length_by (a && (b && c)) bs ≡ script_length bs
  unfolding script_length head_right
  length_by p q r = rw (p, q, r)

  pub given_by_lem :
      {f m a : Bool} → ltb (length bs / 6) program_settings ≡ f → eqb (length bs % 6) 0 ≡ m →
      is_none (first_failing (setting_marked bs) 0 (length bs / 6)) ≡ a → given_by (f && (m && a)) (length bs / 6) ≡ given_count bs
  unfolding given_count whole_settings
  given_by_lem p q r = rw (p, q, r)

  pub given_most : given_count bs ≤ program_settings
  unfolding given_count given_by
  given_most = go (ltb (length bs / 6) program_settings) (whole_settings bs) refl
    where
      go : (f w : Bool) → ltb (length bs / 6) program_settings ≡ f → given_by (f && w) (length bs / 6) ≤ program_settings
      go true true e = omega (arith, ltb-true (length bs / 6) program_settings e)
      go true false e = omega arith
      go false w e = omega arith

pub given_decoded :
    {ws : List ℤ} {count : ℕ} (zs : List ℤ) (rest : List ℕ) → count ≡ given_count rest →
    ws ≡ over (numbered (setting_at rest) 0 count) zs → program_settings ≤ length zs → ws ≡ over (given_settings rest) zs
unfolding given_settings
given_decoded zs rest e d l = d ∙ ap (λ (k : ℕ). over (numbered (setting_at rest) 0 k) zs) e

-- the first places of a store that was given the settings hold them
pub first_given :
    {ws : List ℤ} {count : ℕ} (zs : List ℤ) (rest : List ℕ) → count ≡ given_count rest → program_settings ≤ length zs →
    (program_settings ≤ length zs → ws ≡ over (given_settings rest) zs) → take count ws ≡ given_settings rest
unfolding given_settings over
first_given {count = count} zs rest e l d =
    ap (take count) (d l)
    ∙ take_at (numbered (setting_at rest) 0 (given_count rest)) _ count (length_numbered (setting_at rest) 0 (given_count rest) ∙ sym e)

-- ---- parts of a slice

take_least : {A : Type 0} (m : ℕ) (l : List A) → take (min m (length l)) l ≡ take m l
take_least m l = go (leb m (length l)) refl
  where
    go : (b : Bool) → leb m (length l) ≡ b → take (min m (length l)) l ≡ take m l
    go true e = let z : min m (length l) ≡ m = omega (arith, leb-true m (length l) e) in ap (λ (k : ℕ). take k l) z
    go false e =
        take_all (min m (length l)) l (omega (arith, leb-false m (length l) e))
        ∙ sym (take_all m l (omega (arith, leb-false m (length l) e)))

-- what stands before a place that is no further than the end
pub front_part : {A : Type 0} {end : ℕ} (m : ℕ) (l : List A) → end ≡ min m (length l) → take end l ≡ take m l
front_part m l e = ap (λ k. take k l) e ∙ take_least m l

-- and what stands behind it
pub back_part : {A : Type 0} {end : ℕ} (m : ℕ) (l : List A) → end ≡ min m (length l) → drop end l ≡ drop m l
back_part m l e = ap (λ k. drop k l) e ∙ go (leb m (length l)) refl
  where
    go : (b : Bool) → leb m (length l) ≡ b → drop (min m (length l)) l ≡ drop m l
    go true h = let z : min m (length l) ≡ m = omega (arith, leb-true m (length l) h) in ap (λ k. drop k l) z
    go false h =
        drop_of_length-le l {i = min m (length l)} (omega (arith, leb-false m (length l) h))
        ∙ sym (drop_of_length-le l {i = m} (omega (arith, leb-false m (length l) h)))
