-- A file that passes 1 to 8 and the tables that hold it. Assumes nothing.
use Prim.Native.Nat.{ℕ, ◌≤◌}
use mathlib.Core.Path.{◌≡◌, ap, ◌∙◌}
use mathlib.Core.Bool.{true}
use mathlib.Core.List.{List}
use mathlib.Core.Option.{none}
use native.Mathlib.Omega.{arith}
use lib.ListN.{length}
use lib.Dec.{leb}
use borrow.Author.Tests.{le-leb, leb-true}
use Rattle.lambdamix.specs.Limits.{max_types, max_inputs, max_nodes}
use Rattle.lambdamix.proofs.Tests.{and_both, and_intro}
use Rattle.script.specs.Columns.{enough}
use Rattle.script.specs.declared.Counts.{Counts}
use Rattle.script.specs.File.{head_types, head_inputs, head_nodes, script_in}
use Rattle.script.specs.Refusals.{counts_right, script_refusal, file_refusal}
use Rattle.script.specs.Replies.{head_counts}
use Rattle.script.specs.Tables.{Tables, blank_tables, tables_refusal, long_enough}
use Rattle.script.proofs.RefusalLaws.{neither, pass_over}
use Rattle.script.proofs.Sound.{in_limits}
use Rattle.file.proofs.FileLaws.{script_counts, script_passes}
use Rattle.reading.proofs.ReaderLaws.{head_passes}
use Rattle.streams.specs.Held.{Held}

pub file_counts : (bs : List ℕ) → file_refusal bs ≡ none → counts_right (head_types bs) (head_inputs bs) (head_nodes bs) ≡ true
unfolding file_refusal
file_counts bs e = head_passes bs (neither _ _ e).0

pub few_inputs : (bs : List ℕ) → file_refusal bs ≡ none → length (script_in bs).inputs ≤ max_inputs
few_inputs bs e = omega (arith, (script_counts bs).1, (in_limits _ _ _ (file_counts bs e)).inputs)

-- ---- tables that are long enough for every file

-- those of zeros are
pub blank_long : {x : Tables} → x ≡ blank_tables → long_enough max_types max_inputs max_nodes x ≡ true
unfolding blank_tables long_enough enough max_types max_inputs max_nodes
blank_long e = rw e

lower : {a b : ℕ} (x : ℕ) → a ≤ b → leb b x ≡ true → leb a x ≡ true
lower {a} {b} x h e = le-leb a x (omega (arith, leb-true b x e))

pub long_for_lem :
    (t i n : ℕ) (x : Tables) → counts_right t i n ≡ true → long_enough max_types max_inputs max_nodes x ≡ true → long_enough t i n x ≡ true
unfolding long_enough enough
long_for_lem t i n x h e =
    let l = in_limits t i n h in
    let (types, rest) = and_both _ _ e in
    let (inputs, nodes) = and_both _ _ rest in
    let (two, three) = and_both _ _ nodes in
    let (ps, rs) = and_both _ _ types in
    let (ks, xs) = and_both _ _ two in
    let (ys, others) = and_both _ _ three in
    let (cs, vs) = and_both _ _ others in
    and_intro (and_intro (lower _ l.types ps) (lower _ l.types rs))
    (and_intro (lower _ l.inputs inputs)
    (and_intro (and_intro (lower _ l.nodes ks) (lower _ l.nodes xs))
    (and_intro (lower _ l.nodes ys) (and_intro (lower _ l.nodes cs) (lower _ l.nodes vs)))))

pub held_passes :
    {bs : List ℕ} {n : Counts} {x : Tables} → Held bs n x → tables_refusal n.types n.inputs n.nodes x ≡ none
unfolding tables_refusal head_counts
held_passes {bs} {n} {x} h =
    let counts : counts_right n.types n.inputs n.nodes ≡ true =
    ap (λ (m : Counts). counts_right m.types m.inputs m.nodes) h.counts ∙ file_counts bs h.read in
    pass_over 1 0 _ (long_for_lem n.types n.inputs n.nodes x counts h.room)
    ∙ ap script_refusal h.script
    ∙ script_passes bs h.bytes h.read
