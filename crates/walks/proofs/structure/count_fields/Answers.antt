-- `walks::structure::count_fields` meets its contract: the three fields are counted one after the other. Assumes nothing.
use Rattle.walks.proofs.UseCounts.{counted_fields}
use Rattle.walks.proofs.structure.count_fields.Goals as goal

pub returns : goal.returns
returns c =
    rw (← c.field_a.ensures, ← c.field_b.ensures, ← c.field_c.ensures)
    (counted_fields _ _ _ _ c.count_field.ensures c.count_field-2.ensures c.count_field-3.ensures)
