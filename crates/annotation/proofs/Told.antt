-- What the answer on the root says, and what the checker's reply says by the verdict on the tables, as grind reads them. Assumes nothing.
use Rattle.std.specs.Prelude.{Err, Ok}
use Prim.Native.Nat.{ℕ, ◌≤◌, ◌<◌}
use mathlib.Core.Path.{◌≡◌, refl}
use mathlib.Core.List.{List}
use mathlib.Core.Option.{none, some}
use borrow.Author.Tests.{eq-eqb, ne_eqb, lt-ltb, le-ltb}
use Rattle.lambdamix.specs.Refusal.{refusal}
use Rattle.script.specs.declared.Counts.{Counts}
use Rattle.script.specs.declared.Refusal.{Refusal}
use Rattle.script.specs.declared.columns.Columns as Lent
use Rattle.script.specs.Answers.{Verdict}
use Rattle.script.specs.Tables.{Tables, tables_refusal, tables_in, row_node}
use Rattle.script.specs.Replies.{Tells}
use Rattle.script.proofs.ReplyLaws.{refusal_tells, tells_refusal}
use Rattle.script.proofs.Verdicts.{passed_tells_none, refused_tells_first, passed_tells_next}
use Rattle.tables.specs.PackedTables.{PackedTables}
use Rattle.annotation.specs.AnswerWords.{refusal_in, type_base, type_in, root_answer}
use Rattle.annotation.specs.Checks.{check_refusal}
use Rattle.annotation.specs.Walks.{Annotated}

-- of the root i, whose answer is r
module _ (i r : ℕ) where
  pub root_fault : r < type_base → some (refusal_in r) ≡ root_answer i r
  unfolding root_answer
  root_fault h = rw (lt-ltb r type_base h)

  pub root_late : type_base ≤ r → type_in r ≡ 1 → none ≡ root_answer i r
  unfolding root_answer
  root_late h e = rw (le-ltb r type_base h, eq-eqb (type_in r) 1 e)

  pub root_early : type_base ≤ r → ¬ (type_in r ≡ 1) → some (refusal 11 i) ≡ root_answer i r
  unfolding root_answer
  root_early h e = rw (le-ltb r type_base h, ne_eqb (type_in r) 1 e)

-- tables that are refused are refused so,
pub check_refused :
    (t i n : ℕ) (x : Tables) (f : Refusal) → Tells (tables_refusal t i n x) (Err f) → Tells (check_refusal t i n x) (Err f)
unfolding check_refusal
check_refused t i n x f told = refusal_tells (refused_tells_first (tells_refusal told) _ refl refl)

-- and of tables that pass, whose nodes are in the words, the types tell.
pub check_passed :
    (n : Counts) (x : Lent.Columns) (words : List ℕ) (w : Verdict) → Tells (tables_refusal n.types n.inputs n.nodes (tables_in x)) (Ok tt) →
    PackedTables (Ok tt) n.nodes (tables_in x) words → Annotated n x.parameters.now x.results.now x.inputs.now words w →
    Tells (check_refusal n.types n.inputs n.nodes (tables_in x)) w
unfolding check_refusal row_node
check_passed n x words w told packed annotated =
    let passed = tells_refusal told in
    let typed = annotated.reply _ _ _ _ _ (passed_tells_none passed refl) (packed.nodes refl) in
    refusal_tells (passed_tells_next passed refl (tells_refusal typed))
