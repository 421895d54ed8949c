-- The plain run of the rows' script grades each reading by its row, within 4 m - 3 steps and m + 1 deep; and what a call that made bands leaves.
-- Assumes nothing.
use Prim.Native.Nat.{ℕ, zero, suc, ◌+◌, ◌*◌, ◌≤◌, ◌<◌}
use mathlib.Core.Path.{◌≡◌, refl, sym, ap, subst, subst⁻¹, ◌∙◌}
use mathlib.Core.Bool.{Bool, true, false}
use mathlib.Core.List.{List, [], ◌∷◌}
use mathlib.Core.Option.{none}
use native.Mathlib.Omega.{arith}
use lib.IntN.{ℤ}
use lib.ListN.{length, drop}
use lib.Seq.{take_at}
use lib.Signed.{lt_z}
use Rattle.lambdamix.specs.declared.Operator.TheVariants.{Less}
use Rattle.lambdamix.specs.Arithmetic.{Fits32, exact_result, truth, Gives}
use Rattle.lambdamix.specs.Limits.{max_depth, max_fuel}
use Rattle.lambdamix.specs.Script.{Script, input_count}
use Rattle.lambdamix.specs.Term.{Term, child_at}
use Rattle.lambdamix.specs.Erasure.{erase, static_form}
use Rattle.lambdamix.specs.Value.{Value, number, Environment, empty, bind, value_at, value_at_by}
use Rattle.lambdamix.specs.Evaluation.{Job, visit, branch, branch_by}
use Rattle.lambdamix.specs.PlainRun.{a_number, numbers_from, plain_job, plain_refusal}
use Rattle.lambdamix.specs.PlainRules.{Evaluates, e_const, e_var, e_if, e_op, EvaluatesWith, told_number}
use Rattle.lambdamix.specs.Refusal.{or_else, refused_unless}
use Rattle.lambdamix.specs.Checker.{annotation_refusal}
use Rattle.lambdamix.specs.Code.{written, last_node, lit}
use Rattle.lambdamix.proofs.Erasure.{plain_job_lem}
use Rattle.lambdamix.proofs.PlainRun.{plain_deeper, evaluated_by_rules}
use Rattle.lambdamix.proofs.WrittenTree.{written_term, written_tree}
use Rattle.lambdamix.proofs.Written.{closed_formed}
use Rattle.lambdamix.proofs.WrittenAgain.{scoped_closed}
use Rattle.script.specs.Widths.{AllFit}
use Rattle.script.specs.File.{script_in, file_bytes, type_from, input_from, node_from, type_offset, input_offset, node_offset, head_types, head_inputs, head_nodes}
use Rattle.script.specs.Refusals.{script_refusal}
use Rattle.script.specs.Tables.{Tables, tables_script, tables_refusal, over}
use Rattle.file.specs.Encodable.{Encodable}
use Rattle.file.specs.AcceptedFile.{AcceptedFile}
use Rattle.annotation.specs.Checks.{check_refusal}
use Rattle.cells.specs.Room.{heap_suffices}
use Rattle.plainrun.specs.Running.{refusal_before, ran_unless, after_plain, running}
use Rattle.file.proofs.FileLaws.{read_written}
use Rattle.script.specs.Replies.{head_counts}
use Rattle.script.proofs.Numbered.{length_numbered}
use Rattle.script.proofs.RefusalLaws.{neither}
use Rattle.bands.specs.Rows.{Band, band_at, max_rows, rows_refusal, FallsIn, BandFits}
use Rattle.bands.specs.BandScript.{row_part, input_below, band_code, one_input, band_script, band_nodes, band_length}
use Rattle.bands.specs.Calls.{Columns, row_in, rows_in, band_bytes, columns_refusal}
use Rattle.bands.specs.Grading.{band_steps, band_depth, GradesAs, band_file, HoldFile, RunGives, GradesByRows}
use Rattle.bands.proofs.RowTests.{rows_length, band_at_lem}
use Rattle.bands.proofs.Acceptance.{part_scoped, script_passes, script_accepted}
use Rattle.bands.proofs.Writing.{script_nodes, band_length_lem, row_count, columns_fit}
use Rattle.bands.proofs.Covering.{rows_accepted, below_next, not_below}

-- ---- the part of a row, by the rules of Figure 1

-- the row that the part grades a reading by: the first whose next low the reading is below, else the last
pub data Selects (z : ℤ) : Band → List Band → ℕ → Type 0 where
  last_row : {r : Band} → Selects z r [] 0
  this_row : {r q : Band} {rows : List Band} → lt_z z q.low ≡ true → Selects z r (q ∷ rows) 0
  later_row : {r q : Band} {rows : List Band} {k : ℕ} → lt_z z q.low ≡ false → Selects z q rows k → Selects z r (q ∷ rows) (suc k)

-- steps of that
unfoldable steps_to : ℕ → ℕ → ℕ
steps_to zero k = 1
steps_to (suc n) zero = 5
steps_to (suc n) (suc k) = suc (3 + steps_to n k)

steps_few : (n k : ℕ) → steps_to n k ≤ 4 * n + 1
unfolding steps_to
steps_few zero k = omega arith
steps_few (suc n) zero = omega arith
steps_few (suc n) (suc k) = omega (arith, steps_few n k)

gives_less : (a b : ℤ) (t : Bool) → lt_z a b ≡ t → Gives Less a b (truth t)
unfolding exact_result
gives_less a b true e = record { exact = rw e; fits = omega arith }
gives_less a b false e = record { exact = rw e; fits = omega arith }

module _ (z : ℤ) where
  abbrev ρ : Environment
  ρ = bind 0 (number z) empty

  -- late `<` of the input and a low, with marks and lifts dropped, takes three steps
  below_evaluates :
      {d i j l : ℕ} {w : ℤ} {t : Bool} → lt_z z w ≡ t → Evaluates (suc (suc d)) (visit (Term.op i Less (Term.var j 0) (Term.const l w)) ρ) (number (truth t)) 3
  unfolding value_at value_at_by
  below_evaluates e = e_op (e_var refl) e_const (gives_less z _ _ e)

  part_evaluates :
      (s : ℕ) {r : Band} {rows : List Band} {k : ℕ} → Selects z r rows k →
      Evaluates (suc (suc (length rows))) (visit (erase (written_term s (row_part r rows))) ρ) (number (band_at (r ∷ rows) k).grade) (steps_to (length rows) k)
  unfolding erase static_form child_at written_term row_part band_at steps_to branch branch_by
  part_evaluates s last_row = e_const
  part_evaluates s (this_row e) = e_if (below_evaluates e) e_const
  part_evaluates s (later_row {r = r} {q = q} {rows = rows} {k = k} e p) =
      e_if (below_evaluates e) (part_evaluates (suc (last_node (suc (last_node s (input_below q.low))) (lit r.grade))) p)

-- a reading of row k stands to the lows as that row wants it
selects :
    (z : ℤ) (r : Band) (rows : List Band) (k : ℕ) → k < length (r ∷ rows) → ((j : ℕ) → suc j ≤ k → lt_z z (band_at rows j).low ≡ false) →
    (k < length rows → lt_z z (band_at rows k).low ≡ true) → Selects z r rows k
unfolding band_at
selects z r [] zero l a b = last_row
selects z r [] (suc k) l a b = let c : ⊥ = omega arith in absurd c
selects z r (q ∷ rows) zero l a b = this_row (b (omega arith))
selects z r (q ∷ rows) (suc k) l a b =
    later_row (a 0 (omega arith)) (selects z q rows k (omega arith) (λ j h. a (suc j) (omega arith)) (λ h. b (omega arith)))

at_depth : {d d' k : ℕ} {j : Job} {v : Value} → d ≡ d' → Evaluates d j v k → Evaluates d' j v k
at_depth {k} {j} {v} e p = subst (λ d. Evaluates d j v k) e p

-- ---- the script

-- Theorem: the plain run of the script of rows that are not refused, on a reading, ends with the grade of the row that the reading falls in, in at most
-- 4 m - 3 steps and at most m + 1 deep.
pub graded_by_rules :
    (rows : List Band) → ((k : ℕ) → k < length rows → BandFits (band_at rows k)) → rows_refusal rows ≡ none → (z : ℤ) → Fits32 z → (k : ℕ) →
    FallsIn z rows k → GradesAs rows z (band_at rows k).grade
unfolding band_steps band_depth band_script band_code plain_job numbers_from band_at
graded_by_rules [] fit e z f k h = let c : ⊥ = omega (arith, h.row) in absurd c
graded_by_rules (r ∷ rows) fit e z f k h =
    let chosen =
    selects z r rows k h.row (λ j l. not_below (r ∷ rows) fit e f h (suc j) l) (λ l. below_next (r ∷ rows) fit e f h (omega arith)) in
    let d : suc (suc (length rows)) ≡ length (r ∷ rows) + 1 = omega arith in
    record {
      steps = steps_to (length rows) k;
      derived = rw (written_tree one_input (closed_formed (scoped_closed (part_scoped r rows)))) (at_depth d (part_evaluates z 0 chosen));
      few = omega (arith, steps_few (length rows) k);
    }

-- ---- what a call that made bands leaves

module _ (m : ℕ) (x : Columns) (low : AllFit x.low) (high : AllFit x.high) (grade : AllFit x.grade) where
  rows_fit : (k : ℕ) → k < length (rows_in m x) → BandFits (band_at (rows_in m x) k)
  unfolding row_in
  rows_fit k l =
      subst⁻¹ BandFits (band_at_lem m x k (omega (arith, rows_length m x))) (record { low = low.fits k; high = high.fits k; grade = grade.fits k })

  module _ (c : columns_refusal m x ≡ none) where
    rows_pass : rows_refusal (rows_in m x) ≡ none
    unfolding columns_refusal
    rows_pass = (neither _ _ c).1

    some_rows : 1 ≤ length (rows_in m x)
    some_rows = omega (arith, (row_count m x c).any, rows_length m x)

    few_rows : length (rows_in m x) ≤ max_rows
    few_rows = rw (rows_length m x) (row_count m x c).few

    -- the output holds the file in its first places
    file_left : (out : List ℕ) → band_file m (over (band_bytes m x) out) ≡ band_bytes m x
    unfolding band_file over band_bytes
    file_left out =
        take_at (file_bytes (band_script (rows_in m x))) (drop (length (file_bytes (band_script (rows_in m x)))) out) (band_length m)
        (band_length_lem (rows_in m x) some_rows ∙ ap band_length (rows_length m x))

    -- it is accepted
    passes :
        Encodable (band_script (rows_in m x))
        × (script_refusal (band_script (rows_in m x)) ≡ none)
        × (annotation_refusal (band_script (rows_in m x)) ≡ none)
    passes = script_passes (rows_in m x) some_rows few_rows (columns_fit m x low grade)

    file_script : (out : List ℕ) → script_in (band_file m (over (band_bytes m x) out)) ≡ band_script (rows_in m x)
    unfolding band_bytes
    file_script out = ap script_in (file_left out) ∙ read_written (band_script (rows_in m x)) passes.0

    file_counts : (out : List ℕ) → head_counts (band_file m (over (band_bytes m x) out)) ≡ record { types = 0; inputs = 1; nodes = band_nodes m }
    unfolding head_counts script_in band_script written
    file_counts out =
        let bs = band_file m (over (band_bytes m x) out) in
        let e = file_script out in
        let types = length_numbered (λ j. type_from bs (type_offset j)) 0 (head_types bs) in
        let inputs = length_numbered (λ j. input_from bs (input_offset (head_types bs) j)) 0 (head_inputs bs) in
        let nodes = length_numbered (λ j. node_from bs (node_offset (head_types bs) (head_inputs bs) j)) 0 (head_nodes bs) in
        λ i.
        record {
          types = (sym types ∙ ap (λ (s : Script). length s.types) e) i;
          inputs = (sym inputs ∙ ap (λ (s : Script). length s.inputs) e) i;
          nodes = (sym nodes ∙ ap (λ (s : Script). length s.nodes) e ∙ script_nodes (rows_in m x) some_rows ∙ ap band_nodes (rows_length m x)) i;
        }

    module _ (out : List ℕ) {y : Tables} (h : HoldFile m (over (band_bytes m x) out) y) where
      -- tables that hold the file hold the rows' script
      holds : tables_script 0 1 (band_nodes m) y ≡ band_script (rows_in m x)
      holds = h.script ∙ file_script out

      tables_checked : check_refusal 0 1 (band_nodes m) y ≡ none
      unfolding check_refusal tables_refusal or_else refused_unless
      tables_checked = rw (h.long, holds, passes.1, passes.2)

      module _ (heap : List ℕ) (enough : heap_suffices max_fuel (length heap) ≡ true) (z : ℤ) (g : ℤ) (graded : GradesAs (rows_in m x) z g) where
        evaluates : EvaluatesWith (band_script (rows_in m x)) (z ∷ []) max_fuel (a_number g) graded.steps
        unfolding band_steps band_depth max_rows max_fuel max_depth
        evaluates =
            record {
              value = number g;
              told = told_number;
              derived = plain_deeper (plain_job_lem (band_script (rows_in m x)) (z ∷ [])) (omega (arith, few_rows)) graded.derived;
              within = omega (arith, graded.few, few_rows);
            }

        run_gives : RunGives m y heap z g
        unfolding running refusal_before ran_unless after_plain plain_refusal tables_refusal or_else refused_unless band_script written input_count max_fuel
        run_gives =
            let runs = (evaluated_by_rules (band_script (rows_in m x)) (z ∷ []) max_fuel (a_number g) graded.steps).1 evaluates in
            record {
              steps = graded.steps;
              gives = rw (h.long, holds, passes.1, enough, runs);
              few = rw (← rows_length m x) graded.few;
            }

    -- all that is promised of it
    pub rows_grade : (out : List ℕ) → GradesByRows m x (over (band_bytes m x) out)
    unfolding band_bytes
    rows_grade out =
        record {
          good = (rows_accepted (rows_in m x) rows_fit).0 rows_pass;
          counts = file_counts out;
          accepted = subst⁻¹ AcceptedFile (file_left out) (script_accepted (rows_in m x) some_rows few_rows (columns_fit m x low grade));
          checked = λ y h. tables_checked out h;
          graded =
              λ y h heap enough z f k i.
              run_gives out h heap enough z (band_at (rows_in m x) k).grade (graded_by_rules (rows_in m x) rows_fit rows_pass z f k i);
        }

-- ---- the figures for 32 rows

-- 219 nodes, 2,859 bytes; 125 steps at most, and 33 deep at most
pub for_32_rows : (band_nodes max_rows ≡ 219) × (band_length max_rows ≡ 2859) × (band_steps max_rows ≡ 125) × (band_depth max_rows ≡ 33)
unfolding max_rows band_nodes band_length band_steps band_depth
for_32_rows = (refl, refl, refl, refl)
