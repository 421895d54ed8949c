-- `annotation::typing::variable` meets its contract: what is looked for among all binders is what is looked for among the first d.
-- Assumes nothing.
use Rattle.std.proofs.Common.{ℕ, suc, ◌-◌, ◌<◌, ◌≡◌, sym, ◌∙◌, List, true, false, get_or, eqb, arith}
use Rattle.annotation.specs.AnswerWords.{pick, high_half, low_half, type_answer}
use Rattle.annotation.specs.Walks.{bound}
use Rattle.annotation.proofs.typing.variable.Goals as goal

module _ (binders : List ℕ) (x i d : ℕ) where
  last-first :
      0 < d →
      bound binders x i d
      ≡ pick (eqb (low_half (get_or binders (d - 1) 0)) x) (type_answer (high_half (get_or binders (d - 1) 0))) (bound binders x i (d - 1))
  unfolding bound
  last-first h = let e : suc (d - 1) ≡ d = omega arith in let f : suc (d - 1) - 1 ≡ d - 1 = omega arith in rw (← e, f)

  module _ {n : ℕ} (l : n ≡ low_half (get_or binders (d - 1) 0)) (h : 0 < d) where
    found_here : eqb n x ≡ true → bound binders x i d ≡ type_answer (high_half (get_or binders (d - 1) 0))
    found_here e = last-first h ∙ rw (← l, e)

    not-here : eqb n x ≡ false → bound binders x i d ≡ bound binders x i (d - 1)
    not-here e = last-first h ∙ rw (← l, e)

pub returns-then-eq : goal.returns-then-eq
returns-then-eq c =
    λ few. c.typed.ensures ∙ rw c.high_half.ensures
    (sym (c.loop-d.invariant ∙ found_here _ _ _ _ c.low_half.ensures c.loop-d-test.true (sym c.eq.ensures ∙ c.if-eq.true)))

pub loop-d-preserved : goal.loop-d-preserved
loop-d-preserved c = c.loop-d.invariant ∙ not-here _ _ _ _ c.low_half.ensures c.loop-d-test.true (sym c.eq.ensures ∙ c.if-eq.false)

pub returns : goal.returns
unfolding bound
returns c = λ few. let e : c.loop-d.d ≡ 0 = omega arith in c.fault-2.ensures ∙ sym (c.loop-d.invariant ∙ rw e)
