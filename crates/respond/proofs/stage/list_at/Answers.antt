-- `respond::stage::list_at` meets its contract. Assumes nothing.
use Rattle.respond.proofs.Listed.{lists_at}
use Rattle.respond.proofs.stage.list_at.Goals as goal

pub returns : goal.returns
returns c = lists_at c.min-from.ensures c.list.ensures c.unwrap_or.ensures c.saturating_add.ensures
