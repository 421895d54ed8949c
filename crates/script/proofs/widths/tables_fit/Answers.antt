-- `script::widths::tables_fit` meets its contract: each column has its width. Assumes nothing.
use borrow.Author.Rules.{rules}
use Rattle.script.proofs.ColumnWidths.{lent_by}
use Rattle.script.proofs.widths.tables_fit.Goals as goal

pub returns : goal.returns
returns c =
    lent_by (search rules) (search rules) (search rules) c.halves_fit.ensures c.halves_fit-2.ensures c.halves_fit-3.ensures
    c.bytes_fit.ensures c.halves_fit-4.ensures c.halves_fit-5.ensures c.halves_fit-6.ensures c.numbers_fit.ensures
