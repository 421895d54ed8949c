-- What callers rely on, by what the entries promise: a call that makes bands leaves a script that is accepted and grades each reading by its row,
-- through reader, checker and plain run; and how long an output always has room. Assumes nothing.
use Prim.Native.Nat.{ℕ, ◌≤◌}
use mathlib.Core.Path.{◌≡◌, refl, sym, ap, subst⁻¹, ◌∙◌}
use mathlib.Core.Bool.{Bool, true, false}
use mathlib.Core.List.{List}
use mathlib.Core.Option.{Option, none, some}
use mathlib.Core.Logic.{⊎_elim}
use native.Mathlib.Omega.{arith}
use lib.ListN.{length}
use lib.Dec.{eqb}
use borrow.Author.Tests.{le-leb, eqb-false}
use Rattle.lambdamix.specs.Refusal.{Refusal, or_else, refused_unless, refused_at}
use Rattle.script.specs.declared.Counts.{Counts}
use Rattle.script.specs.Answers.{Reading}
use Rattle.script.specs.Answers.{Writing}
use Rattle.script.specs.Tables.{Tables, long_enough, filled, read_refusal, read_tables, room_refusal, written_output}
use Rattle.script.specs.File.{script_in, head_types, head_inputs, head_nodes}
use Rattle.script.specs.Replies.{Reply, head_counts, replying, Form, writing_reply, Reads}
use Rattle.script.proofs.RefusalLaws.{neither, either_some, node_number}
use Rattle.reading.proofs.FillLaws.{file_held, filled_long}
use Rattle.bands.specs.Rows.{max_rows, rows_refusal}
use Rattle.bands.specs.BandScript.{band_nodes, band_length}
use Rattle.bands.specs.Calls.{Columns, rows_in, columns_refusal, band_bytes, bands_refusal, MakesBandsAs, MakesBands}
use Rattle.bands.specs.Grading.{band_file, HoldFile, GradesByRows, ServesCalls}
use Rattle.bands.proofs.RowTests.{rows_length}
use Rattle.bands.proofs.Writing.{band_length_lem, row_count}
use Rattle.bands.proofs.Grading.{rows_grade}

-- ---- the numbers of refused calls

-- a refusal's number is not 0
abbrev Told : Refusal → Type 0
Told f = ¬ (f.number ≡ 0)

test_told : (t : Bool) (k p : ℕ) {f : Refusal} → eqb k 0 ≡ false → refused_unless t k p ≡ some f → Told f
unfolding refused_unless
test_told true k p n e = let z : ◌≡◌ {A = ℕ} 0 1 = cc in let b : ⊥ = omega arith in absurd b
test_told false k p {f} n e = λ q. let d : f.number ≡ k = cc in eqb-false k 0 n (sym d ∙ q)

search_told : (k : ℕ) (r : Option ℕ) {f : Refusal} → eqb k 0 ≡ false → refused_at k r ≡ some f → Told f
search_told k r n e q = eqb-false k 0 n (sym (node_number k r e) ∙ q)

refusal_told : (m : ℕ) (x : Columns) (out : List ℕ) {f : Refusal} → bands_refusal m x out ≡ some f → Told f
unfolding bands_refusal columns_refusal rows_refusal room_refusal
refusal_told m x out e =
    ⊎_elim
    (λ a.
    ⊎_elim (λ b. test_told _ 1 0 refl b)
    (λ b.
    ⊎_elim (λ c. test_told _ 30 0 refl c)
    (λ c.
    ⊎_elim (λ d. search_told 30 _ refl d)
    (λ d. ⊎_elim (λ g. search_told 31 _ refl g) (λ g. search_told 32 _ refl g) (either_some _ _ d))
    (either_some _ _ c))
    (either_some _ _ b))
    (either_some _ _ a))
    (λ a. test_told _ 21 0 refl a)
    (either_some _ _ e)

-- a reply with the number 0 is a success
pub number_zero : (m : ℕ) (x : Columns) (out : List ℕ) (n : ℕ) → (replying (bands_refusal m x out) n).number ≡ 0 → bands_refusal m x out ≡ none
unfolding replying
number_zero m x out n e = by (bands_refusal m x out) refl e
  where
    by : (r : Option Refusal) → bands_refusal m x out ≡ r → (replying r n).number ≡ 0 → bands_refusal m x out ≡ none
    by none h q = h
    by (some f) h q = absurd (refusal_told m x out h q)

told_zero : {A : Type 0} (a : A) {r : Option Refusal} → r ≡ none → (replying r a).number ≡ 0
unfolding replying
told_zero a e = rw e

-- ---- what a success leaves

-- Theorem: a call that makes bands and does not refuse leaves good rows' script, which is accepted and grades each reading by its row.
pub bands_leave :
    {R : Type 0} (form : Form R (Reply ℕ)) (m : ℕ) (x : Columns) (before after : List ℕ) (r : R) → MakesBandsAs form m x before after r →
    bands_refusal m x before ≡ none → GradesByRows m x after
unfolding bands_refusal written_output
bands_leave form m x before after r h e =
    rw (h.text.output, e) (rows_grade m x h.low h.high h.grade (neither _ _ e).0 before)

-- ---- room

-- Theorem: rows that are not refused are written wherever the output has 91 m - 53 places,
pub room_for_bands : (m : ℕ) (x : Columns) (out : List ℕ) → columns_refusal m x ≡ none → band_length m ≤ length out → bands_refusal m x out ≡ none
unfolding bands_refusal room_refusal refused_unless or_else band_bytes
room_for_bands m x out c h =
    let n = rows_length m x in
    let l = band_length_lem (rows_in m x) (omega (arith, n, (row_count m x c).any)) ∙ ap band_length n in
    rw (c, l, le-leb (band_length m) (length out) h)

-- and 2,859 places are enough for any.
pub room_for_any : (m : ℕ) (x : Columns) (out : List ℕ) → columns_refusal m x ≡ none → 2859 ≤ length out → bands_refusal m x out ≡ none
unfolding band_length max_rows
room_for_any m x out c h = room_for_bands m x out c (omega (arith, (row_count m x c).few))

-- ---- through reader, checker and plain run

module _ (m : ℕ) (x : Columns) (left : List ℕ) (y : Tables) (g : GradesByRows m x left) (long : long_enough 0 1 (band_nodes m) y ≡ true) where
  -- what the file's head counts
  no_types : head_types (band_file m left) ≡ 0
  unfolding head_counts
  no_types = ap (λ (n : Counts). n.types) g.counts

  one_input : head_inputs (band_file m left) ≡ 1
  unfolding head_counts
  one_input = ap (λ (n : Counts). n.inputs) g.counts

  all_nodes : head_nodes (band_file m left) ≡ band_nodes m
  unfolding head_counts
  all_nodes = ap (λ (n : Counts). n.nodes) g.counts

  file_read : read_refusal (band_file m left) y ≡ none
  unfolding read_refusal refused_unless or_else
  file_read = rw (g.accepted.read, no_types, one_input, all_nodes, long)

  -- tables that the reader filled from the file hold it
  reader_holds : (z : Tables) (q : Reading) → Reads (band_file m left) y z q → HoldFile m left z
  unfolding read_tables
  reader_holds z q reads =
      let bs = band_file m left in
      let tables : z ≡ filled (script_in bs) y = rw file_read at reads.tables in
      subst⁻¹ (HoldFile m left) tables
      (record { long = filled_long 0 1 (band_nodes m) (script_in bs) y long; script = rw (no_types, one_input, all_nodes) at (file_held bs y) })

-- Theorem: bands that a call made serve their user: the file that it left is read and accepted, and its plain run with fuel 16,000 and a store of
-- 16,016 places or more grades each 32-bit reading by its row.
pub bands_serve :
    (m : ℕ) (x : Columns) (before after : List ℕ) (r : Writing) → MakesBands m x before after r → (writing_reply r).number ≡ 0 → (y z : Tables) →
    long_enough 0 1 (band_nodes m) y ≡ true → (q : Reading) → Reads (band_file m after) y z q → ServesCalls m x after y z
bands_serve m x before after r h e y z long q reads =
    let g = bands_leave _ m x before after r h (number_zero m x before _ (ap (λ (p : Reply ℕ). p.number) (sym h.text.reply) ∙ e)) in
    let held = reader_holds m x after y g long z q reads in
    record {
      read = λ s t. ap (λ (p : Reply Counts). p.number) t.reply ∙ told_zero _ (file_read m x after y g long);
      checked = λ v t. ap (λ (p : Reply (Unit {0})). p.number) t.reply ∙ told_zero tt (g.checked z held);
      graded =
          λ reading f k i heap left enough a s.
          let run = g.graded z held heap enough reading f k i in
          (run.steps, s.reply ∙ run.gives, run.few);
    }
