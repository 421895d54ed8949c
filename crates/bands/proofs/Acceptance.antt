-- The rows' script is accepted: it fits a file, and none of refusals 1 to 11 holds of it, through its bytes. Assumes nothing.
use Prim.Native.Nat.{ℕ, suc, ◌+◌, ◌≤◌}
use mathlib.Core.Path.{◌≡◌, refl}
use mathlib.Core.Bool.{true}
use mathlib.Core.List.{List, [], ◌∷◌}
use mathlib.Core.Option.{none}
use native.Mathlib.Omega.{arith}
use lib.ListN.{length, get_or}
use lib.Dec.{leb}
use borrow.Author.Tests.{le-leb}
use Rattle.lambdamix.specs.Arithmetic.{Fits32}
use Rattle.lambdamix.specs.Limits.{max_inputs, max_nodes, max_height}
use Rattle.lambdamix.specs.Script.{input_count}
use Rattle.lambdamix.specs.Refusal.{first_by, first_failing}
use Rattle.lambdamix.specs.Checker.{annotation_refusal}
use Rattle.lambdamix.specs.Term.{arity}
use Rattle.lambdamix.specs.Code.{size, code_height, fits, written}
use Rattle.lambdamix.specs.Demand.{DynamicInput}
use Rattle.lambdamix.proofs.Checking.{checker_accepts}
use Rattle.lambdamix.proofs.Range.{CodeFits}
use Rattle.lambdamix.proofs.Suits.{Scoped, lit_scoped, input_scoped, form_scoped, nil_scoped, cons_scoped}
use Rattle.lambdamix.proofs.Tests.{and_intro}
use Rattle.lambdamix.proofs.Written.{written_accepted}
use Rattle.lambdamix.proofs.WrittenAgain.{scoped_closed}
use Rattle.script.specs.File.{file_bytes}
use Rattle.script.specs.Refusals.{input_fits, script_refusal}
use Rattle.file.specs.Encodable.{Encodable}
use Rattle.file.specs.AcceptedFile.{AcceptedFile}
use Rattle.file.proofs.AcceptedAgain.{through_bytes, written_fits, written_passes}
use Rattle.bands.specs.Rows.{Band, band_at, max_rows}
use Rattle.bands.specs.BandScript.{row_part, band_code, one_input, band_script}
use Rattle.bands.proofs.Numbering.{part_size}

-- the numbers that the script holds have 32 bits
pub record Fitting (rows : List Band) : Type 0 where
  pub low : (k : ℕ) → Fits32 (band_at rows k).low
  pub grade : (k : ℕ) → Fits32 (band_at rows k).grade

-- ---- the code of rows

the_input : DynamicInput one_input 0
unfolding input_count
the_input = record { input = omega arith; dynamic = refl }

pub part_scoped : (r : Band) (rows : List Band) → Scoped one_input 1 [] (row_part r rows)
unfolding row_part arity
part_scoped r [] = lit_scoped
part_scoped r (q ∷ rows) =
    form_scoped refl
    (cons_scoped (form_scoped refl (cons_scoped (input_scoped the_input) (cons_scoped lit_scoped nil_scoped)))
    (cons_scoped lit_scoped (cons_scoped (part_scoped q rows) nil_scoped)))

part_in_range : (r : Band) (rows : List Band) → Fitting (r ∷ rows) → CodeFits (row_part r rows)
unfolding row_part band_at
part_in_range r [] f = f.grade 0
part_in_range r (q ∷ rows) f =
    ((tt, (f.low 1, tt)), (f.grade 0, (part_in_range q rows (record { low = λ k. f.low (suc k); grade = λ k. f.grade (suc k) }), tt)))

part_height : (r : Band) (rows : List Band) → code_height (row_part r rows) ≤ length rows + 3
unfolding row_part code_height
part_height r [] = omega arith
part_height r (q ∷ rows) = omega (arith, part_height q rows)

part_fits : (r : Band) (rows : List Band) → length (r ∷ rows) ≤ max_rows → fits (row_part r rows) ≡ true
unfolding fits max_rows max_nodes max_height
part_fits r rows h =
    and_intro (le-leb (size (row_part r rows)) 4096 (omega (arith, part_size r rows)))
    (le-leb (code_height (row_part r rows)) 256 (omega (arith, part_height r rows)))

-- ---- their script

few_inputs : leb (length one_input.inputs) max_inputs ≡ true
unfolding max_inputs
few_inputs = refl

inputs_right : first_failing (input_fits (λ j. get_or one_input.inputs j 0)) 0 (length one_input.inputs) ≡ none
unfolding first_failing first_by input_fits
inputs_right = refl

-- the rows' script fits the widths of a file and passes 3 to 11
pub script_passes :
    (rows : List Band) → 1 ≤ length rows → length rows ≤ max_rows → Fitting rows →
    Encodable (band_script rows) × (script_refusal (band_script rows) ≡ none) × (annotation_refusal (band_script rows) ≡ none)
unfolding band_script band_code
script_passes [] a b f = let z : ⊥ = omega arith in absurd z
script_passes (r ∷ rows) a b f =
    let scoped = part_scoped r rows in
    let range = part_in_range r rows f in
    let fit = part_fits r rows b in
    let (structured, dynamic) = written_accepted one_input (scoped_closed scoped) fit in (
      written_fits one_input few_inputs inputs_right scoped (omega arith) range fit,
      written_passes one_input few_inputs inputs_right scoped (omega arith) range fit structured,
      (checker_accepts (written one_input (row_part r rows))).1 dynamic,
    )

-- Theorem: the file of the rows' script is accepted: none of refusals 1 to 11 holds of it.
pub script_accepted :
    (rows : List Band) → 1 ≤ length rows → length rows ≤ max_rows → Fitting rows → AcceptedFile (file_bytes (band_script rows))
script_accepted rows a b f = let (e, r, t) = script_passes rows a b f in through_bytes (band_script rows) e r t
