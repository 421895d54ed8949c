-- The plain run on the numbers as it is given them gives what it gives on the numbers that follow the script; where these are not whole records, or more
-- than a script has inputs, it is 12 in its place. Assumes nothing.
use Prim.Native.Nat.{ℕ, ◌/◌, ◌≤◌}
use mathlib.Core.Path.{◌≡◌, refl, sym, ◌∙◌}
use mathlib.Core.Bool.{Bool, true, false, ◌&&◌}
use mathlib.Core.List.{List}
use native.Mathlib.Omega.{arith}
use lib.IntN.{ℤ}
use lib.ListN.{length}
use lib.Dec.{ltb}
use borrow.Author.Tests.{ne_eqb, ltb-false}
use Rattle.lambdamix.specs.Limits.{max_inputs, max_fuel}
use Rattle.lambdamix.specs.Script.{Script, input_count}
use Rattle.lambdamix.specs.Refusal.{refusal, or_else, refused_unless}
use Rattle.lambdamix.specs.PlainRun.{plain_refusal}
use Rattle.script.specs.File.{numbered}
use Rattle.script.proofs.Numbered.{length_numbered}
use Rattle.plainrun.specs.Running.{Reply, unfinished, ran_unless}
use Rattle.streams.specs.Input.{whole_settings, setting_at, settings}
use Rattle.streams.specs.Given.{program_settings, given_by, given_count, given_settings}

-- 12 in its place
abbrev pub twelve : Reply
twelve = unfinished (refusal 12 0) 0

module _ (s : Script) where
  -- what a call gives, and past 1 to 8 the program
  abbrev called : List ℤ → Reply
  called zs = ran_unless (plain_refusal s zs max_fuel true) s zs max_fuel

  abbrev told : Bool → List ℤ → Reply
  told w zs = ran_unless (or_else (refused_unless w 12 0) (plain_refusal s zs max_fuel true)) s zs max_fuel

  module _ (few : length s.inputs ≤ max_inputs) where
    too_many : (zs : List ℤ) → program_settings ≤ length zs → called zs ≡ twelve
    unfolding plain_refusal input_count refused_unless or_else ran_unless program_settings max_inputs
    too_many zs h = rw (ne_eqb (length zs) (length s.inputs) (λ e. omega arith))

    told_many : (w : Bool) (zs : List ℤ) → program_settings ≤ length zs → told w zs ≡ twelve
    unfolding refused_unless or_else ran_unless
    told_many true zs h = too_many zs h
    told_many false zs h = refl

    module _ (bs : List ℕ) where
      -- the count that stands for a wrong number of numbers
      wrong_count : called (numbered (setting_at bs) 0 program_settings) ≡ twelve
      wrong_count = too_many _ (omega (arith, length_numbered (setting_at bs) 0 program_settings))

      -- more numbers than a script has inputs are 12, whatever they are
      pub many_numbers : program_settings ≤ length bs / 6 → told (whole_settings bs) (settings bs) ≡ twelve
      unfolding settings
      many_numbers h = told_many (whole_settings bs) (settings bs) (omega (arith, length_numbered (setting_at bs) 0 (length bs / 6)))

      pub given_ran : called (given_settings bs) ≡ told (whole_settings bs) (settings bs)
      unfolding given_settings given_count given_by settings or_else refused_unless ran_unless
      given_ran = go (ltb (length bs / 6) program_settings) (whole_settings bs) refl refl
        where
          go :
              (f w : Bool) → ltb (length bs / 6) program_settings ≡ f → whole_settings bs ≡ w →
              called (numbered (setting_at bs) 0 (given_by (f && w) (length bs / 6))) ≡ told w (settings bs)
          go true true e g = refl
          go true false e g = wrong_count
          go false w e g = wrong_count ∙ sym (rw g at (many_numbers (ltb-false (length bs / 6) program_settings e)))
