-- Demand 3, whole, of the evaluation rules. Its last part goes through the bytes: the written script of a finished run of an accepted script,
-- where 26 does not hold, is accepted again, by ALL of refusals 1 to 11, whatever the output. Assumes nothing.
use Prim.Native.Nat.{ℕ, ◌≤◌}
use mathlib.Core.Path.{◌≡◌, subst⁻¹, ◌∙◌}
use mathlib.Core.Bool.{true}
use mathlib.Core.List.{List, []}
use mathlib.Core.Option.{none}
use native.Mathlib.Omega.{arith}
use native.Mathlib.Nat.{le_of_lt}
use lib.IntN.{ℤ, pos}
use lib.ListN.{length, get_or}
use lib.Dec.{leb}
use borrow.Author.Tests.{leb-true, le-leb}
use Rattle.lambdamix.specs.Arithmetic.{Fits32}
use Rattle.lambdamix.specs.Limits.{max_inputs, max_nodes, max_fuel}
use Rattle.lambdamix.specs.Script.{Script, Node, blank_node, node_at, input_count}
use Rattle.lambdamix.specs.Checker.{annotation_refusal}
use Rattle.lambdamix.specs.Refusal.{first_failing, or_else}
use Rattle.lambdamix.specs.Structure.{structure_refusal}
use Rattle.lambdamix.specs.Code.{Code, fits, written}
use Rattle.lambdamix.specs.Specializing.{specialized, finished}
use Rattle.lambdamix.proofs.Checking.{checker_accepts}
use Rattle.lambdamix.proofs.Range.{CodeFits, code_in_range}
use Rattle.lambdamix.proofs.Suits.{Scoped}
use Rattle.lambdamix.proofs.Bounds.{names_fit}
use Rattle.lambdamix.proofs.WellAnnotated as WellAnnotated
use Rattle.lambdamix.proofs.WellAnnotated.{finished_run, finished_code_scoped}
use Rattle.lambdamix.proofs.WrittenAgain as WrittenAgain
use Rattle.script.specs.File.{script_in, file_bytes}
use Rattle.script.specs.Refusals.{input_fits, content_of, content_refusal, script_refusal}
use Rattle.file.specs.Encodable.{AllBytes, Encodable}
use Rattle.file.specs.AcceptedFile.{AcceptedFile}
use Rattle.file.specs.Demand.{DemandThree}
use Rattle.script.proofs.Rows.{everywhere}
use Rattle.script.proofs.Sound.{sound}
use Rattle.script.proofs.RefusalLaws.{neither, pass_over, no_record, passes}
use Rattle.file.proofs.FileLaws.{read_written, file_refusal_lem, read_fits, script_passes}
use Rattle.file.proofs.WrittenContent.{sizes_right, each_good, written_counts, written_content}

-- what refusals 3 to 8 that are none say of a script's inputs
module _ (s : Script) (passes-all : script_refusal s ≡ none) where
  few_inputs : leb (length s.inputs) max_inputs ≡ true
  few_inputs = le-leb _ _ (sound s passes-all).within.inputs

  inputs_right : first_failing (input_fits (λ j. get_or s.inputs j 0)) 0 (length s.inputs) ≡ none
  unfolding script_refusal content_refusal content_of
  inputs_right =
      let content = (neither _ _ (neither _ _ passes-all).1).0 in
      no_record 4 _ _ (neither _ _ (neither _ _ content).1).0

-- a script that passes 3 to 11 and fits the widths of a file passes 1 to 11 through its bytes
pub through_bytes :
    (w : Script) → Encodable w → script_refusal w ≡ none → annotation_refusal w ≡ none → AcceptedFile (file_bytes w)
through_bytes w e r a =
    record {
      read = file_refusal_lem w e ∙ r;
      annotated = subst⁻¹ (λ (s : Script). annotation_refusal s ≡ none) (read_written w e) a;
    }

module _
    {N : ℕ}
    {c : Code}
    (s : Script)
    (few : leb (length s.inputs) max_inputs ≡ true)
    (right : first_failing (input_fits (λ j. get_or s.inputs j 0)) 0 (length s.inputs) ≡ none)
    (scoped : Scoped s N [] c)
    (names : N ≤ 65536)
    (constants : CodeFits c)
    (fitting : fits c ≡ true)
  where
    -- the written script fits the widths of a file
    pub written_fits : Encodable (written s c)
    unfolding written node_at max_inputs max_nodes input_fits
    written_fits =
        let inputs : length s.inputs ≤ max_inputs = leb-true (length s.inputs) max_inputs few in
        let (small, same) = sizes_right s few right scoped names constants fitting in
        record {
          type_count = omega arith;
          input_count = omega arith;
          node_count = omega (arith, small, same);
          types = λ j l. let z : ⊥ = omega arith in absurd z;
          inputs =
              λ j l. omega (arith, leb-true (get_or s.inputs j 0) 1 (passes (input_fits (λ i. get_or s.inputs i 0)) (length s.inputs) right j l));
          nodes = λ j l. (each_good s few right scoped names constants fitting j l).encodable;
        }

    pub written_passes : structure_refusal (written s c) ≡ none → script_refusal (written s c) ≡ none
    unfolding script_refusal or_else written
    written_passes r =
        pass_over 3 0 (or_else (content_refusal (written s c)) (structure_refusal (written s c)))
        (written_counts s few right scoped names constants fitting)
        ∙ rw (written_content s few right scoped names constants fitting, r)

module _
    (s : Script)
    (passes-all : script_refusal s ≡ none)
    (annotated : annotation_refusal s ≡ none)
    (values : (i : ℕ) → Fits32 (node_at s i).value)
    (zs : List ℤ)
    (settings : (i : ℕ) → Fits32 (get_or zs i (pos 0)))
    (fuel : ℕ)
    (limit : fuel ≤ max_fuel)
    (c : Code)
    (k : ℕ)
    (ends : specialized s zs fuel ≡ finished c k)
    (fitting : fits c ≡ true)
  where
    -- The code that making a script leaves, for a script past 3 to 11, numbers of 32 bits and fuel within its limit: its written
    -- script fits the widths of a file and passes 3 to 11.
    pub written_again : Encodable (written s c) × (script_refusal (written s c) ≡ none) × (annotation_refusal (written s c) ≡ none)
    unfolding input_count
    written_again =
        let (l, y, q) = finished_run s zs fuel ends in
        let scoped = finished_code_scoped s ((checker_accepts s).0 annotated) zs fuel q in
        let few = few_inputs s passes-all in
        let right = inputs_right s passes-all in
        let inputs : input_count s ≤ max_inputs = leb-true (length s.inputs) max_inputs few in
        let names : y ≤ 65536 = le_of_lt (names_fit s zs fuel inputs limit q) in
        let constants = code_in_range s zs fuel values settings q in
        let (structured, again) = WrittenAgain.written_passes s annotated zs fuel c k ends fitting in (
          written_fits s few right scoped names constants fitting,
          written_passes s few right scoped names constants fitting structured,
          again,
        )

    -- Its file passes all of refusals 1 to 11.
    pub script_accepted_again : AcceptedFile (file_bytes (written s c))
    script_accepted_again = let (e, r, a) = written_again in through_bytes (written s c) e r a

-- Demand 3 of a script past 3 to 11, for numbers of 32 bits and fuel within its limit.
pub script_demand_three :
    (s : Script) → script_refusal s ≡ none → annotation_refusal s ≡ none → ((i : ℕ) → Fits32 (node_at s i).value) → (zs : List ℤ) →
    ((i : ℕ) → Fits32 (get_or zs i (pos 0))) → (fuel : ℕ) → fuel ≤ max_fuel → DemandThree s zs fuel
script_demand_three s passes-all annotated values zs settings fuel limit =
    let d = (checker_accepts s).0 annotated in
    record {
      no_clash = WellAnnotated.no_clash s d zs fuel;
      with_code = λ v l y e. WellAnnotated.finishes_with_code s d zs fuel e;
      proper_names = λ c k e. WellAnnotated.proper_names s d zs fuel e;
      accepted_again = script_accepted_again s passes-all annotated values zs settings fuel limit;
    }

-- The values of a script that was read have 32 bits.
pub values_fit : (bs : List ℕ) → AllBytes bs → (i : ℕ) → Fits32 (node_at (script_in bs) i).value
unfolding node_at
values_fit bs bytes =
    everywhere (λ (d : Node). Fits32 d.value) blank_node (script_in bs).nodes (omega arith)
    (λ i l. ((read_fits bs bytes).nodes i l).value)

-- Theorem, demand 3 of the evaluation rules: of every accepted file, for settings of 32 bits and fuel within its limit, no run takes number, code
-- and function for one another; a run that finishes finishes with code; every name in it is a late input's or is used inside its own
-- binder; and wherever it fits a script file, that file is accepted again.
pub demand_three :
    (bs : List ℕ) → AllBytes bs → AcceptedFile bs → (zs : List ℤ) → ((i : ℕ) → Fits32 (get_or zs i (pos 0))) → (fuel : ℕ) →
    fuel ≤ max_fuel → DemandThree (script_in bs) zs fuel
demand_three bs bytes h =
    script_demand_three (script_in bs) (script_passes bs bytes h.read) h.annotated (values_fit bs bytes)
