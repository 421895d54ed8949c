-- `annotation::typing::rule` meets its contract: the lowest fault goes first, else each arm is its kind's rule. Assumes nothing.
use Rattle.std.proofs.Common.{◌≡◌, Bool, ◌&&◌, ap, ◌∙◌, arith}
use borrow.Author.Rules.{rules}
use lib.Dec.{eqb}
use Rattle.annotation.specs.AnswerWords.{given_by}
use Rattle.annotation.proofs.Rules.{NotAmong, past_all, fault_ruled, lift_ruled, function_ruled, apply_ruled, fix_ruled, if_ruled, operation_ruled}
use Rattle.annotation.proofs.Rules.{late_ruled}
use Rattle.annotation.proofs.typing.rule.Goals as goal

pub returns-then-least-lt-TYPE_BASE : goal.returns-then-least-lt-TYPE_BASE
returns-then-least-lt-TYPE_BASE c = search fault_ruled

pub returns-in-2 : goal.returns-in-2
returns-in-2 c = let e = c.given.ensures ∙ ap (λ (b : Bool). given_by b 1 c.args.i.0) c.eq.ensures in search (lift_ruled, e)

pub returns-in-3 : goal.returns-in-3
returns-in-3 c = search function_ruled

pub returns-in-4 : goal.returns-in-4
returns-in-4 c = search apply_ruled

pub returns-in-5 : goal.returns-in-5
returns-in-5 c = search fix_ruled

pub returns-after-eq : goal.returns-after-eq
returns-after-eq c =
    let o : c.if-eq.given ≡ (eqb c.type_in-t.result.0 0 && eqb c.type_in-u.result.0 c.type_in-v.result.0) = search rules in
    search (if_ruled, o)

pub returns-after-eq-2 : goal.returns-after-eq-2
returns-after-eq-2 c =
    let o : c.if-eq-2.given ≡ (eqb c.type_in-t.result.0 0 && eqb c.type_in-u.result.0 0) = search rules in
    search (operation_ruled, o)

pub returns-in_default : goal.returns-in_default
unfolding NotAmong
returns-in_default c =
    let m = past_all 2 6 _ (omega (arith, c.kind.ensures, c.requires)) c.in_default.in_default-own.rest in search (late_ruled, m)
