-- `reading::reader::head_refusal` meets its contract: four tests in their order. Assumes nothing.
use mathlib.Core.Path.{ap, ◌∙◌}
use mathlib.Core.Bool.{Bool}
use lib.Dec.{eqb}
use lib.ListN.{length}
use Prim.Native.Nat.{ℕ}
use borrow.Author.Rules.{rules}
use Rattle.lambdamix.specs.Refusal.{refused_unless}
use Rattle.script.specs.Refusals.{head_refusal}
use Rattle.script.proofs.Verdicts.{refused_tells_first, passed_tells_next}
use Rattle.reading.proofs.HeadLaws.{counts_told, length_told}
use Rattle.reading.proofs.reader.head_refusal.Goals as goal

pub returns-in_err-unless : goal.returns-in_err-unless
unfolding head_refusal
returns-in_err-unless c =
    refused_tells_first c.unless.ensures _ c.in_err-unless.was (search rules)

pub returns-in_err-unless-2 : goal.returns-in_err-unless-2
unfolding head_refusal
returns-in_err-unless-2 c =
    let mark = c.unless-2.ensures ∙ ap (λ (b : Bool). refused_unless b 2 0) c.marked.ensures in
    passed_tells_next c.unless.ensures c.in_ok-unless.was
    (refused_tells_first mark _ c.in_err-unless-2.was (search rules))

pub returns-in_err-unless-3 : goal.returns-in_err-unless-3
unfolding head_refusal
returns-in_err-unless-3 c =
    let mark = c.unless-2.ensures ∙ ap (λ (b : Bool). refused_unless b 2 0) c.marked.ensures in
    let counts = c.unless-3.ensures ∙ ap (λ (b : Bool). refused_unless b 3 0) (counts_told _ c.head_counts-n.ensures c.counts_right.ensures) in
    passed_tells_next c.unless.ensures c.in_ok-unless.was
    (passed_tells_next mark c.in_ok-unless-2.was (refused_tells_first counts _ c.in_err-unless-3.was (search rules)))

pub returns : goal.returns
unfolding head_refusal
returns c =
    let mark = c.unless-2.ensures ∙ ap (λ (b : Bool). refused_unless b 2 0) c.marked.ensures in
    let counts = c.unless-3.ensures ∙ ap (λ (b : Bool). refused_unless b 3 0) (counts_told _ c.head_counts-n.ensures c.counts_right.ensures) in
    let total =
    c.unless-4.ensures
    ∙ ap (λ (k : ℕ). refused_unless (eqb (length c.args.file.now) k) 1 (length c.args.file.now)) (length_told _ c.head_counts-n.ensures c.file_size.ensures)
    in
    passed_tells_next c.unless.ensures c.in_ok-unless.was
    (passed_tells_next mark c.in_ok-unless-2.was (passed_tells_next counts c.in_ok-unless-3.was total))
