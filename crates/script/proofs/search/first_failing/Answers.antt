-- `script::search::first_failing` meets its contract: the loop searches. Assumes nothing.
use mathlib.Core.Path.{sym, ◌∙◌}
use native.Mathlib.Omega.{arith}
use Rattle.script.specs.Verdicts.{found_at}
use Rattle.script.proofs.Searching.{search_begins, search_goes_on, search_finds, search_ends}
use Rattle.script.proofs.search.first_failing.Goals as goal

pub loop-j-init : goal.loop-j-init
loop-j-init g c = λ p h. search_begins p _

pub loop-j-preserved : goal.loop-j-preserved
loop-j-preserved g c =
    λ p h. search_goes_on p (c.loop-j.invariant p h) (omega arith)
    (sym (h _ _ (omega arith) c.passes.ensures) ∙ c.if-not-passes.false)

pub returns-then-not-passes : goal.returns-then-not-passes
unfolding found_at
returns-then-not-passes g c =
    λ p h. search_finds p (c.loop-j.invariant p h) (omega arith)
    (sym (h _ _ (omega arith) c.passes.ensures) ∙ c.if-not-passes.true)

pub returns : goal.returns
unfolding found_at
returns g c = λ p h. search_ends p (c.loop-j.invariant p h) (omega arith)
