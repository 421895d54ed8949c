-- The refusals of a file from those of its parts, and the reader's reply and tables. Assumes nothing.
use Rattle.std.specs.Prelude.{Err, Ok}
use Prim.Native.Nat.{ℕ, ◌<◌, ◌≤◌}
use mathlib.Core.Path.{◌≡◌, refl, sym, ap, ◌∙◌}
use mathlib.Core.Bool.{Bool, true, false}
use mathlib.Core.List.{List}
use mathlib.Core.Option.{Option, none, some}
use mathlib.Core.Logic.{⊎_elim}
use native.Mathlib.Omega.{arith}
use lib.IntN.{ℤ, pos}
use lib.ListN.{length, length-replicate}
use lib.Dec.{leb, ltb}
use borrow.Author.Tests.{leb-true, leb-false, le-leb, lt-ltb, le-ltb}
use Rattle.lambdamix.specs.Refusal as Lambdamix
use Rattle.lambdamix.specs.Limits.{max_types, max_inputs, max_nodes}
use Rattle.lambdamix.specs.Script.{Script}
use Rattle.lambdamix.specs.Refusal.{or_else, refused_unless}
use Rattle.lambdamix.specs.Structure.{use_refusal, height_refusal, scope_refusal, structure_refusal}
use Rattle.lambdamix.proofs.Tests.{holds_or_fails}
use Rattle.script.specs.declared.Counts.{Counts}
use Rattle.script.specs.declared.Refusal.{Refusal}
use Rattle.script.specs.Answers.{Verdict}
use Rattle.script.specs.Answers.{Reading}
use Rattle.script.specs.File.{head_types, head_inputs, head_nodes, script_in}
use Rattle.script.specs.Refusals.{counts_right, content_of, content_refusal, script_refusal, mark_refusal, earlier, earlier_by, body_refusal, head_refusal}
use Rattle.script.specs.Tables.{Tables, tables_script, blank_tables, filled, long_enough, tables_refusal, read_refusal, read_tables}
use Rattle.script.specs.Replies.{head_counts, replying, reading_reply, Reads}
use Rattle.script.specs.Verdicts.{refusal_of, reading}
use Rattle.script.specs.Columns.{enough}
use Rattle.script.proofs.ReplyLaws.{reading_reply_lem}
use Rattle.script.proofs.Numbered.{length_numbered}
use Rattle.script.proofs.RefusalLaws.{neither, not_refused, pass_over, either_some, node_number, record_number}
use Rattle.script.proofs.Sound.{in_limits}
use Rattle.reading.specs.Heads.{marks_first, script_by, FillFits, read_reply}
use Rattle.reading.proofs.FillLaws.{file_held, filled_long, fill_fits, by_head}

-- ---- the columns of the check

pub counts_here : (bs : List ℕ) {n : Counts} → n ≡ head_counts bs → counts_right (head_types bs) (head_inputs bs) (head_nodes bs) ≡ true
    → counts_right n.types n.inputs n.nodes ≡ true
unfolding head_counts
counts_here bs e h = ap (λ (m : Counts). counts_right m.types m.inputs m.nodes) e ∙ h

-- columns of zeros, as long as the limits, hold every file whose counts are right
pub blank_fits : (bs : List ℕ) {n : Counts} {x : Tables} → n ≡ head_counts bs → counts_right (head_types bs) (head_inputs bs) (head_nodes bs) ≡ true
    → x ≡ blank_tables → FillFits n x
unfolding blank_tables
blank_fits bs {n} e h b =
    let l = in_limits n.types n.inputs n.nodes (counts_here bs e h) in
    let types = length-replicate {A = ℕ} max_types 0 in
    let inputs = length-replicate {A = ℕ} max_inputs 0 in
    let nodes = length-replicate {A = ℕ} max_nodes 0 in
    let values = length-replicate {A = ℤ} max_nodes (pos 0) in
    rw b
    (record {
      parameters = omega (arith, l.types);
      results = omega (arith, l.types);
      inputs = omega (arith, l.inputs);
      kinds = omega (arith, l.nodes);
      a = omega (arith, l.nodes);
      b = omega (arith, l.nodes);
      c = omega (arith, l.nodes);
      values = omega (arith, l.nodes);
    })

-- and what can be filled is long enough
fits_long : (n : Counts) (x : Tables) → FillFits n x → long_enough n.types n.inputs n.nodes x ≡ true
unfolding long_enough enough
fits_long n x f =
    simp (
      le-leb _ _ f.parameters,
      le-leb _ _ f.results,
      le-leb _ _ f.inputs,
      le-leb _ _ f.kinds,
      le-leb _ _ f.a,
      le-leb _ _ f.b,
      le-leb _ _ f.c,
      le-leb _ _ f.values,
    )

-- and so it is when it is filled
pub filled_fits : (bs : List ℕ) (n : Counts) {x : Tables} (old : Tables) → x ≡ filled (script_by n bs) old → FillFits n old → FillFits n x
unfolding long_enough
filled_fits bs n {x} old held fits =
    fill_fits n x
    (ap (long_enough n.types n.inputs n.nodes) held ∙ filled_long n.types n.inputs n.nodes (script_by n bs) old (fits_long n old fits))

-- ---- the body

content_number : (s : Script) {f : Lambdamix.Refusal} → content_refusal s ≡ some f → f.number < 6
unfolding content_refusal content_of
content_number s e =
    ⊎_elim (λ p. omega (arith, record_number 4 _ _ p))
    (λ q. ⊎_elim (λ p. omega (arith, record_number 4 _ _ p)) (λ p. omega (arith, record_number 5 _ _ p)) (either_some _ _ q)) (either_some _ _ e)

structure_number : (s : Script) {f : Lambdamix.Refusal} → structure_refusal s ≡ some f → 6 ≤ f.number
unfolding structure_refusal use_refusal height_refusal scope_refusal
structure_number s e =
    ⊎_elim (λ p. omega (arith, node_number 6 _ p))
    (λ q. ⊎_elim (λ p. omega (arith, node_number 7 _ p)) (λ p. omega (arith, node_number 8 _ p)) (either_some _ _ q)) (either_some _ _ e)

-- A mark beside all that is refused of records is a mark beside 3 to 5, then 6 to 8.
marks_between :
    (m c s : Option Lambdamix.Refusal) → ((f : Lambdamix.Refusal) → c ≡ some f → f.number < 6)
    → ((f : Lambdamix.Refusal) → s ≡ some f → 6 ≤ f.number)
    → marks_first m (or_else c s) ≡ or_else (earlier m c) s
unfolding marks_first or_else earlier earlier_by
marks_between none c s h k = refl
marks_between (some e) none none h k = refl
marks_between (some e) none (some f) h k = rw (le-ltb f.number 6 (k f refl))
marks_between (some e) (some f) s h k =
    rw (lt-ltb f.number 6 (h f refl)) (⊎_elim (λ p. before p) (λ p. behind p) (holds_or_fails (leb e.place f.place)))
  where
    before : leb e.place f.place ≡ true → earlier_by (ltb f.place e.place) f e ≡ or_else (earlier_by (leb e.place f.place) e f) s
    before p = rw (p, le-ltb f.place e.place (leb-true _ _ p))

    behind : leb e.place f.place ≡ false → earlier_by (ltb f.place e.place) f e ≡ or_else (earlier_by (leb e.place f.place) e f) s
    behind p = rw (p, lt-ltb f.place e.place (leb-false _ _ p))

counts_are : (bs : List ℕ) → counts_right (head_types bs) (head_inputs bs) (head_nodes bs) ≡ true
    → counts_right (length (script_in bs).types) (length (script_in bs).inputs) (length (script_in bs).nodes) ≡ true
unfolding script_in
counts_are bs right = simp length_numbered right

-- Long tables that hold a file's script are refused as its records are,
tables_by_records : (bs : List ℕ) (x : Tables) → tables_script (head_types bs) (head_inputs bs) (head_nodes bs) x ≡ script_in bs
    → counts_right (head_types bs) (head_inputs bs) (head_nodes bs) ≡ true → long_enough (head_types bs) (head_inputs bs) (head_nodes bs) x ≡ true
    → tables_refusal (head_types bs) (head_inputs bs) (head_nodes bs) x ≡ or_else (content_refusal (script_in bs)) (structure_refusal (script_in bs))
unfolding tables_refusal script_refusal
tables_by_records bs x held right long = pass_over 1 0 _ long ∙ ap script_refusal held ∙ pass_over 3 0 _ (counts_are bs right)

-- and its body by its marks beside that.
pub body_by_tables : (bs : List ℕ) {n : Counts} → n ≡ head_counts bs
    → counts_right (head_types bs) (head_inputs bs) (head_nodes bs) ≡ true
    → {x : Tables} (old : Tables) → x ≡ filled (script_by n bs) old → FillFits n x
    → {r m t : Option Lambdamix.Refusal} → m ≡ mark_refusal bs n.types n.inputs n.nodes → t ≡ tables_refusal n.types n.inputs n.nodes x
    → r ≡ marks_first m t → r ≡ body_refusal bs
unfolding body_refusal head_counts
body_by_tables bs {n} e right {x} old held fits {m = m} marks told p =
    p
    ∙ ap (marks_first m) (told ∙ ap (λ (c : Counts). tables_refusal c.types c.inputs c.nodes x) e ∙ tables_by_records bs x script_is right long)
    ∙ ap (λ (o : Option Lambdamix.Refusal). marks_first o (or_else (content_refusal (script_in bs)) (structure_refusal (script_in bs))))
    (marks ∙ ap (λ (c : Counts). mark_refusal bs c.types c.inputs c.nodes) e)
    ∙ marks_between _ _ _ (λ f q. content_number (script_in bs) q) (λ f q. structure_number (script_in bs) q)
  where
    script_is : tables_script (head_types bs) (head_inputs bs) (head_nodes bs) x ≡ script_in bs
    script_is = ap (tables_script (head_types bs) (head_inputs bs) (head_nodes bs)) (held ∙ ap (λ (s : Script). filled s old) (by_head bs e)) ∙ file_held bs old

    long : long_enough (head_types bs) (head_inputs bs) (head_nodes bs) x ≡ true
    long = ap (λ (c : Counts). long_enough c.types c.inputs c.nodes x) (sym e) ∙ fits_long n x fits

-- ---- the file

-- a head that passes has right counts
pub head_passes : (bs : List ℕ) → head_refusal bs ≡ none → counts_right (head_types bs) (head_inputs bs) (head_nodes bs) ≡ true
unfolding head_refusal
head_passes bs e = not_refused _ 3 0 (neither _ _ (neither _ _ (neither _ _ e).1).1).0

-- ---- the reader

-- whether tables are long enough for as many records as the head counts
abbrev pub long_for : List ℕ → Tables → Bool
long_for bs x = long_enough (head_types bs) (head_inputs bs) (head_nodes bs) x

-- it is told by the head's counts
pub long_told : (bs : List ℕ) (x : Tables) {n : Counts} {b : Bool} → n ≡ head_counts bs
    → b ≡ enough n.types n.inputs n.nodes (length x.parameters) (length x.results) (length x.inputs) (length x.kinds) (length x.a) (length x.b) (length x.c)
    (length x.values)
    → b ≡ long_for bs x
unfolding head_counts long_enough
long_told bs x e p = p ∙ ap (λ (m : Counts). long_enough m.types m.inputs m.nodes x) e

-- the reply by a verdict
module _ {v : Verdict} {p : Option Lambdamix.Refusal} (told : refusal_of v ≡ p) where
  pub reads_passed : {n m : Counts} → v ≡ (Ok tt) → n ≡ m → Ok n ≡ reading p m
  unfolding reading refusal_of
  reads_passed e c = rw (← told, e) (ap Ok c)

  pub reads_refused : (m : Counts) {f : Refusal} {r : Reading} → v ≡ Err f → r ≡ Err f → r ≡ reading p m
  unfolding reading refusal_of
  reads_refused m e h = rw (← told, e) h

-- what a reading that read, and one that was refused, say of what refuses
was_read : (p : Option Lambdamix.Refusal) (n : Counts) {m : Counts} → reading p n ≡ Ok m → (p ≡ none) × (m ≡ n)
unfolding reading
was_read none n e = (refl, cc)
was_read (some f) n e = let z : ◌≡◌ {A = ℕ} 0 1 = cc in let w : ⊥ = omega arith in absurd w

was_refused : (p : Option Lambdamix.Refusal) (n : Counts) {f : Refusal} → reading p n ≡ Err f → (g : Lambdamix.Refusal) × (p ≡ some g)
unfolding reading
was_refused none n e = let z : ◌≡◌ {A = ℕ} 0 1 = cc in let w : ⊥ = omega arith in absurd w
was_refused (some g) n e = (g, refl)

module _ (bs : List ℕ) (x : Tables) {r : Reading} (told : r ≡ read_reply bs (long_for bs x)) where
  free : {n : Counts} → r ≡ Ok n → (read_refusal bs x ≡ none) × (n ≡ head_counts bs)
  unfolding read_refusal read_reply
  free o = was_read _ _ (sym told ∙ o)

  refused : {f : Refusal} → r ≡ Err f → (g : Lambdamix.Refusal) × (read_refusal bs x ≡ some g)
  unfolding read_refusal read_reply
  refused o = was_refused _ _ (sym told ∙ o)

  replies : {w : Reading} → w ≡ r → reading_reply w ≡ replying (read_refusal bs x) (head_counts bs)
  unfolding read_refusal read_reply
  replies e = ap reading_reply (e ∙ told) ∙ reading_reply_lem _ _

  -- What is read fits,
  pub counts_fit : {n : Counts} → r ≡ Ok n → FillFits n x
  unfolding read_refusal head_counts long_enough
  counts_fit o =
      let (f, e) = free o in
      rw e (fill_fits (head_counts bs) x (not_refused _ 21 0 (neither _ _ f).1))

  -- and is what fills the tables;
  pub reads_by : (y : Tables) {n : Counts} {w : Reading} → r ≡ Ok n → y ≡ filled (script_by n bs) x → w ≡ Ok n → Reads bs x y w
  unfolding read_tables
  reads_by y o h q =
      let (f, e) = free o in
      record { reply = replies (q ∙ sym o); tables = rw f (h ∙ ap (λ (s : Script). filled s x) (by_head bs e)) }

  -- what is refused leaves them.
  pub reads_none : {f : Refusal} {w : Reading} → r ≡ Err f → w ≡ Err f → Reads bs x x w
  unfolding read_tables
  reads_none o q =
      let (g, e) = refused o in
      record { reply = replies (q ∙ sym o); tables = rw e }

-- ---- the same, each equation as grind reads it

module _ (bs : List ℕ) (x : Tables) where
  pub reply_told : replying (read_refusal bs x) (head_counts bs) ≡ reading_reply (read_reply bs (long_for bs x))
  reply_told = sym (replies bs x refl refl)

  pub refused_leaves : (f : Refusal) → read_reply bs (long_for bs x) ≡ Err f → read_tables (read_refusal bs x) bs x ≡ x
  refused_leaves f o = let r = reads_none bs x {r = Err f} (sym o) refl refl in sym r.tables

  pub read_fills : (n : Counts) → read_reply bs (long_for bs x) ≡ Ok n → read_tables (read_refusal bs x) bs x ≡ filled (script_by n bs) x
  read_fills n o = let r = reads_by bs x {r = Ok n} (sym o) (filled (script_by n bs) x) refl refl refl in sym r.tables

  pub read_fits : (n : Counts) → read_reply bs (long_for bs x) ≡ Ok n → FillFits n x
  read_fits n o = counts_fit bs x {r = Ok n} (sym o) refl
