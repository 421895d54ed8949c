-- From the root on: the walk's answer, under the inputs alone, gives refusals 9, 10 and 11 of the tables. Assumes nothing.
use Prim.Native.Nat.{ℕ, ◌-◌, ◌≤◌, ◌<◌}
use mathlib.Core.Path.{◌≡◌, ◌∙◌}
use mathlib.Core.Option.{none, some}
use mathlib.Core.List.{List}
use mathlib.Core.Logic.{⊎_elim}
use native.Mathlib.Omega.{arith}
use lib.ListN.{length, get_or}
use lib.Dec.{eqb, ltb}
use borrow.Author.Tests.{ltb-false, ne_eqb}
use Rattle.lambdamix.specs.Limits.{max_types}
use Rattle.lambdamix.specs.Script.{Script, node_count, root}
use Rattle.lambdamix.specs.Types.{Ty}
use Rattle.lambdamix.specs.Typing.{input_context}
use Rattle.lambdamix.specs.Checker.{Checked, typed, root_rule, checked_root, annotation_refusal}
use Rattle.lambdamix.proofs.Tests.{holds_or_fails}
use Rattle.script.specs.declared.Counts.{Counts}
use Rattle.script.specs.Answers.{Verdict}
use Rattle.script.specs.Verdicts.{refusal_of}
use Rattle.script.specs.Tables.{Tables, row_type, row_input, row_node, tables_refusal, tables_of}
use Rattle.script.specs.Words.{Packed}
use Rattle.script.proofs.Rows.{type_count_lem, input_count_lem, node_count_lem, type_row, input_row, node_row}
use Rattle.script.proofs.RefusalLaws.{neither}
use Rattle.script.proofs.ReplyLaws.{refusal_tells}
use Rattle.annotation.specs.AnswerWords.{Passes, pick, type_base, type_in, meaning, AnswersFor, root_answer}
use Rattle.annotation.specs.Checks.{script_of}
use Rattle.annotation.specs.Walks.{Lists, Lent, Binds, stack_places, Bottom, Answers, Annotated}
use Rattle.script.proofs.Sound.{Sound}
use Rattle.annotation.proofs.Passing.{passes_sound}
use Rattle.annotation.proofs.TypeNumbers.{View, static, dynamic, arrow, view}
use Rattle.annotation.proofs.Contexts.{inputs_bound}

-- the answer at the root, and what it stands for
root_answers : (s : Script) → Sound s → (i r : ℕ) {x : Checked Ty} → AnswersFor s r x → root_answer i r ≡ root_rule i x
unfolding root_answer root_rule meaning
root_answers s ok i r p =
    rw (← p.said)
    (⊎_elim (λ e. rw e) (λ e. let h = ltb-false _ _ e in rw e (by_view (view s ok (type_in r) (p.known h))))
    (holds_or_fails (ltb r type_base)))
  where
    by_view :
        {u : Ty} → View s (type_in r) u →
        pick (eqb (type_in r) 1) none (some (record { number = 11; place = i })) ≡ root_rule i (typed u)
    by_view (static e) = rw e
    by_view (dynamic e) = rw e
    by_view (arrow j e l) = rw (ne_eqb (type_in r) 1 (λ w. omega arith))

module _ (n : Counts) (x : Tables) (ok : Passes n x) where
  tables_lent :
      {words ts : List ℕ} → Packed n.nodes (row_node x) words → Lists n.types (λ j. get_or x.parameters j 0) (λ j. get_or x.results j 0) ts →
      Lent (script_of n x) words ts
  unfolding row_type tables_refusal
  tables_lent p t =
      record {
        passes = (neither _ _ ok).1;
        nodes = record {
          each = λ j h. let l : j < n.nodes = omega (arith, node_count_lem n.types n.inputs n.nodes x) in rw (node_row
              n.types n.inputs n.nodes x j l) (p.each j l);
        };
        types =
            record {
              each = λ j h. let l : j < n.types = omega (arith, type_count_lem n.types n.inputs n.nodes x) in rw (type_row n.types
                  n.inputs n.nodes x j l) (t.each j l);
              past = λ j h l. t.past j (omega (arith, type_count_lem n.types n.inputs n.nodes x)) l;
              room = t.room;
            };
      }

  inputs_lent : {before : List ℕ} → Bottom n.inputs x.inputs before → Binds (script_of n x) before n.inputs (input_context (script_of n x))
  unfolding row_input
  inputs_lent {before} b =
      rw (input_count_lem n.types n.inputs n.nodes x) at
      (inputs_bound (script_of n x) (passes_sound n x ok) before
      (λ j h. let l : j < n.inputs = omega (arith, input_count_lem n.types n.inputs n.nodes x) in rw (
        input_count_lem n.types n.inputs n.nodes x,
        input_row n.types n.inputs n.nodes x j l,
      ) (b.each j l)))

-- Theorem: the root's answer gives refusals 9, 10 and 11.
pub at_root :
    {n : Counts} {ps rs is words ts before after : List ℕ} {i r : ℕ} {v : Verdict} →
    (n.types ≤ max_types → Lists n.types (λ j. get_or ps j 0) (λ j. get_or rs j 0) ts) → (n.inputs ≤ stack_places → Bottom n.inputs is before) →
    length before ≡ stack_places → i ≡ n.nodes - 1 → Answers words ts before after n.inputs i r → refusal_of v ≡ root_answer i r →
    Annotated n ps rs is words v
unfolding annotation_refusal checked_root root
at_root {n} {ps} {rs} {is} {words} {before} {i} {r} t b c e a q = record {
  reply = λ ks xs ys zs vs ok p.
      let x = tables_of ps rs is ks xs ys zs vs in
      let s = script_of n x in
      let sd = passes_sound n x ok in
      let some = sd.within.some_node in
      let m = node_count_lem n.types n.inputs n.nodes x in
      let f : i ≡ node_count s - 1 = omega arith in
      let lent = tables_lent n x ok p (t (omega (arith, type_count_lem n.types n.inputs n.nodes x, sd.within.types))) in
      let st = a.reply s _ lent (inputs_lent n x ok (b (omega (arith, input_count_lem n.types n.inputs n.nodes x, sd.within.inputs)))) (omega arith)
      (omega (arith, input_count_lem n.types n.inputs n.nodes x, sd.within.inputs, sd.within_height i (omega arith))) in
      refusal_tells (q ∙ root_answers s sd i r st ∙ rw f);
}
