-- `walks::structure::structure_refusal` meets its contract: what the walks find is what the definition says of a script whose
-- nodes the words hold (`words_agree`). Assumes nothing.
use mathlib.Core.Path.{sym, ◌∙◌}
use native.Mathlib.Omega.{arith}
use Rattle.lambdamix.specs.Limits.{max_nodes}
use Rattle.lambdamix.specs.Refusal.{refused_at, or_else}
use Rattle.script.specs.Verdicts.{found_at, refusal_of}
use Rattle.walks.proofs.Agreement.{words_agree}
use Rattle.walks.proofs.structure.structure_refusal.Goals as goal

pub returns-then-count-lt1 : goal.returns-then-count-lt1
unfolding max_nodes
returns-then-count-lt1 c = record { refusal = λ t x l m p fit. absurd (omega arith) }

pub first_misused-requires : goal.first_misused-requires
unfolding max_nodes
first_misused-requires c = omega arith

pub returns-in-Some : goal.returns-in-Some
unfolding found_at refusal_of refused_at or_else
returns-in-Some c =
    record {
      refusal = λ t x l m p fit.
          rw c.at.ensures (sym (words_agree t _ _ x _ p fit l ∙ rw (sym c.first_misused.ensures, c.in-Some.is)));
    }

pub returns : goal.returns
unfolding found_at refused_at or_else
returns c = record { refusal = λ t x l m p fit. c.tree_refusal.ensures ∙ sym (words_agree t _ _ x _ p fit l ∙ rw (sym c.first_misused.ensures, c.in_default.is)) }
