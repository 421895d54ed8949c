-- `bands::rows::columns_refusal` meets its contract: by the lengths of the columns. Assumes nothing.
use Rattle.script.specs.Verdicts.{refusal_of}
use Rattle.bands.proofs.Refusing.{columns_long_lem, columns_short}
use Rattle.bands.proofs.rows.columns_refusal.Goals as goal

pub returns-then-not-hold : goal.returns-then-not-hold
unfolding refusal_of
returns-then-not-hold c = rw c.at.ensures (columns_short _ _ c.hold.ensures c.if-not-hold.true)

pub returns : goal.returns
returns c = columns_long_lem _ _ c.hold.ensures c.if-not-hold.false c.rows_refusal.ensures
