-- `tables::refusal::tables_packed` meets its contract: with too few words it refuses, and says nothing of the tables. Assumes nothing.
use native.Mathlib.Omega.{arith}
use Rattle.lambdamix.specs.Limits.{max_nodes}
use Rattle.script.proofs.ReplyLaws.{refusal_tells}
use Rattle.tables.proofs.ScriptLaws.{not_packed}
use Rattle.tables.proofs.refusal.tables_packed.Goals as goal

pub returns-then-words-min : goal.returns-then-words-min
unfolding max_nodes
returns-then-words-min c = record { reply = λ h. absurd (omega arith); packed = not_packed }

pub packed_refusal-requires : goal.packed_refusal-requires
unfolding max_nodes
packed_refusal-requires c = omega arith

pub returns : goal.returns
returns c = record {
  reply = λ h. refusal_tells c.packed_refusal.ensures.reply;
  packed = c.packed_refusal.ensures.packed;
}
