-- `tables::refusal::packed_refusal` meets its contract: short tables before all else. Assumes nothing.
use Rattle.tables.proofs.ScriptLaws.{long_holds, tables_short, tables_long, not_packed}
use Rattle.tables.proofs.refusal.packed_refusal.Goals as goal

pub returns-then-not-hold : goal.returns-then-not-hold
returns-then-not-hold c = record {
  reply = rw c.at.ensures (tables_short _ _ _ _ c.hold.ensures c.if-not-hold.true);
  packed = not_packed;
}

pub script_refusal-requires : goal.script_refusal-requires
script_refusal-requires c = record {
  hold_nodes = long_holds _ _ _ _ c.hold.ensures c.if-not-hold.false;
  max_nodes_in_bounds = c.requires;
}

pub returns : goal.returns
returns c = record {
  reply = tables_long _ _ _ _ c.hold.ensures c.if-not-hold.false c.script_refusal.ensures.reply;
  packed = c.script_refusal.ensures.packed;
}
