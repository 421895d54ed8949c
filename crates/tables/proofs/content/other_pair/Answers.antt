-- `tables::content::other_pair` meets its contract: the results are compared where the parameters are the same. Assumes nothing.
use Rattle.script.specs.Refusals.{other_pair, same_pair}
use Rattle.script.specs.Tables.{row_type}
use Rattle.tables.proofs.ContentLaws.{differ_first, differ_second}
use Rattle.tables.proofs.content.other_pair.Goals as goal

pub returns-then-ne : goal.returns-then-ne
unfolding other_pair same_pair row_type
returns-then-ne c = rw (← c.type_at.ensures, ← c.type_at-2.ensures) (differ_first _ _ c.ne.ensures c.if-ne.true)

pub returns-else-ne : goal.returns-else-ne
unfolding other_pair same_pair row_type
returns-else-ne c =
    rw (← c.type_at.ensures, ← c.type_at-2.ensures, ← c.type_at-else-ne.ensures, ← c.type_at-else-ne-2.ensures)
    (differ_second _ _ c.ne.ensures c.if-ne.false c.ne-else-ne.ensures)
