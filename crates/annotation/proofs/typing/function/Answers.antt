-- `annotation::typing::function` meets its contract: the loop goes on while no place passed has the word. Assumes nothing.
use Rattle.std.proofs.Common.{sym, ◌∙◌, arith}
use Rattle.lambdamix.specs.Limits.{max_types}
use Rattle.annotation.specs.Walks.{listed_at, not_listed}
use Rattle.annotation.proofs.typing.function.Goals as goal

pub returns-then-types-lt-MAX_TYPES : goal.returns-then-types-lt-MAX_TYPES
unfolding max_types
returns-then-types-lt-MAX_TYPES c = λ few. absurd (omega arith)

pub returns-then-types-j : goal.returns-then-types-j
unfolding max_types
returns-then-types-j c =
    λ few. rw c.typed.ensures (listed_at _ c.loop-j-test.true (c.if-types-j.true ∙ c.pair-w.ensures.word))

pub returns : goal.returns
unfolding max_types
returns c =
    λ few. rw c.fault-2.ensures (not_listed (λ k h e. c.loop-j.invariant k (omega arith) (e ∙ sym c.pair-w.ensures.word)))
