-- The maker with the settings as it is given them gives what it gives with the settings that follow the script; where these are not whole
-- records, or more than a script has inputs, it is 12 in its place. Assumes nothing.
use Prim.Native.Nat.{ℕ, ◌+◌, ◌*◌, ◌/◌, ◌≤◌}
use mathlib.Core.Path.{◌≡◌, refl, sym, ap, ◌∙◌}
use mathlib.Core.Bool.{Bool, true, false, not, ◌&&◌}
use mathlib.Core.List.{List, [], ◌∷◌}
use mathlib.Core.Option.{Option, none, some}
use native.Mathlib.Omega.{arith}
use lib.IntN.{ℤ, pos}
use lib.ListN.{length, get_or}
use lib.Dec.{ltb, eqb}
use borrow.Author.Tests.{ne_eqb, ltb-false}
use Rattle.lambdamix.specs.Arithmetic.{Fits32}
use Rattle.lambdamix.specs.declared.Mode.TheVariants.{Making}
use Rattle.lambdamix.specs.Limits.{max_inputs, program_fuel}
use Rattle.lambdamix.specs.Script.{Script}
use Rattle.lambdamix.specs.Refusal.{Refusal, or_else, refused_unless}
use Rattle.lambdamix.specs.Checker.{annotation_refusal}
use Rattle.lambdamix.specs.Structure.{one_if}
use Rattle.lambdamix.specs.Specializing.{static_inputs, call_refusal, annotation_by, later_refusal}
use Rattle.script.specs.File.{numbered}
use Rattle.file.specs.Encodable.{AllBytes}
use Rattle.file.proofs.ByteLaws.{value_small}
use Rattle.script.proofs.Rows.{everywhere}
use Rattle.script.proofs.Numbered.{length_numbered, row_at_lem}
use Rattle.residual.specs.AfterRun.{Made}
use Rattle.specializer.specs.Making.{made_unless}
use Rattle.streams.specs.Input.{whole_settings, setting_at, settings}
use Rattle.streams.specs.Given.{program_settings, given_by, given_count, given_settings}

abbrev twelve : Option Refusal
twelve = some (record { number = 12; place = 0 })

-- ---- more settings than inputs

static_few : (ts : List ℕ) → static_inputs ts ≤ length ts
unfolding static_inputs one_if
static_few [] = omega arith
static_few (t ∷ ts) = go (not (eqb t 1)) (static_few ts)
  where
    go : (b : Bool) → static_inputs ts ≤ length ts → one_if b + static_inputs ts ≤ length (t ∷ ts)
    go true h = omega arith
    go false h = omega arith

too_many : (s : Script) → length s.inputs ≤ max_inputs → (zs : List ℤ) → program_settings ≤ length zs → call_refusal s zs program_fuel ≡ twelve
unfolding call_refusal refused_unless or_else program_settings max_inputs
too_many s few zs h = rw (ne_eqb (length zs) (static_inputs s.inputs) (λ e. omega (arith, static_few s.inputs)))

-- ---- what is refused

module _ (s : Script) where
  -- by a call, and past 1 to 8 by the program
  abbrev called : List ℤ → Option Refusal
  called zs = later_refusal Making s zs program_fuel true

  abbrev refused : Bool → List ℤ → Option Refusal
  refused w zs = or_else (annotation_refusal s) (or_else (refused_unless w 12 0) (called zs))

  whole_called : (zs : List ℤ) → refused true zs ≡ called zs
  unfolding later_refusal annotation_by or_else refused_unless
  whole_called zs = go (annotation_refusal s) _
    where
      go : (a r : Option Refusal) → or_else a (or_else a r) ≡ or_else a r
      go none r = refl
      go (some f) r = refl

  call_twelve : (zs : List ℤ) → call_refusal s zs program_fuel ≡ twelve → called zs ≡ or_else (annotation_refusal s) twelve
  unfolding later_refusal annotation_by or_else
  call_twelve zs e = rw e

  twelve_refused : (w : Bool) (zs : List ℤ) → (w ≡ true → call_refusal s zs program_fuel ≡ twelve) → refused w zs ≡ or_else (annotation_refusal s) twelve
  unfolding or_else refused_unless
  twelve_refused true zs e = whole_called zs ∙ call_twelve zs (e refl)
  twelve_refused false zs e = refl

  -- ---- what the maker gives

  module _ (out : List ℕ) where
    abbrev gives : Option Refusal → List ℤ → Made
    gives r zs = made_unless r s zs program_fuel out

    -- 12 in its place
    abbrev pub twelve_made : Made
    twelve_made = gives (or_else (annotation_refusal s) twelve) []

    without_run : (zs : List ℤ) {r : Option Refusal} → r ≡ or_else (annotation_refusal s) twelve → gives r zs ≡ twelve_made
    unfolding made_unless or_else
    without_run zs e = rw e (go (annotation_refusal s))
      where
        go : (a : Option Refusal) → gives (or_else a twelve) zs ≡ gives (or_else a twelve) []
        go none = refl
        go (some f) = refl

    module _ (few : length s.inputs ≤ max_inputs) (bs : List ℕ) where
      -- the count that stands for a wrong number of settings
      wrong_made : gives (called (numbered (setting_at bs) 0 program_settings)) (numbered (setting_at bs) 0 program_settings) ≡ twelve_made
      wrong_made =
          let zs : List ℤ = numbered (setting_at bs) 0 program_settings in
          without_run zs (call_twelve zs (too_many s few zs (omega (arith, length_numbered (setting_at bs) 0 program_settings))))

      -- more settings than a script has inputs are 12, whatever they are
      pub many_settings : program_settings ≤ length bs / 6 → gives (refused (whole_settings bs) (settings bs)) (settings bs) ≡ twelve_made
      unfolding settings
      many_settings h =
          let zs : List ℤ = settings bs in
          without_run zs
          (twelve_refused (whole_settings bs) zs (λ q. too_many s few zs (omega (arith, length_numbered (setting_at bs) 0 (length bs / 6)))))

      pub given_made : gives (called (given_settings bs)) (given_settings bs) ≡ gives (refused (whole_settings bs) (settings bs)) (settings bs)
      unfolding given_settings given_count given_by settings or_else refused_unless
      given_made = go (ltb (length bs / 6) program_settings) (whole_settings bs) refl refl
        where
          go :
              (f w : Bool) → ltb (length bs / 6) program_settings ≡ f → whole_settings bs ≡ w →
              gives (called (numbered (setting_at bs) 0 (given_by (f && w) (length bs / 6)))) (numbered (setting_at bs) 0 (given_by (f && w) (length bs / 6)))
              ≡ gives (refused w (settings bs)) (settings bs)
          go true true e g = ap (λ (r : Option Refusal). gives r (settings bs)) (sym (whole_called (settings bs)))
          go true false e g = wrong_made ∙ sym (without_run (settings bs) refl)
          go false w e g = wrong_made ∙ sym (rw g at (many_settings (ltb-false (length bs / 6) program_settings e)))

-- settings have 32 bits
pub settings_fit : (bs : List ℕ) → AllBytes bs → (i : ℕ) → Fits32 (get_or (settings bs) i (pos 0))
unfolding settings setting_at
settings_fit bs all =
    everywhere Fits32 (pos 0) (numbered (setting_at bs) 0 (length bs / 6)) (omega arith)
    (λ i l.
    rw (row_at_lem (setting_at bs) (length bs / 6) (pos 0) i (omega (arith, length_numbered (setting_at bs) 0 (length bs / 6))))
    (value_small all (6 * i + 2)))
