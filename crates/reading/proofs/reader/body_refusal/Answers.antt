-- `reading::reader::body_refusal` meets its contract: its own columns hold the file's script. Assumes nothing.
use mathlib.Core.Path.{◌∙◌}
use Rattle.script.proofs.ReplyLaws.{tells_refusal}
use Rattle.reading.proofs.ReaderLaws.{blank_fits, filled_fits, body_by_tables}
use Rattle.reading.proofs.reader.body_refusal.Goals as goal

pub fill_tables-requires : goal.fill_tables-requires
fill_tables-requires c = blank_fits _ c.head_counts-n.ensures c.requires c.new-own.ensures

pub returns : goal.returns
returns c =
    let blank = blank_fits _ c.head_counts-n.ensures c.requires c.new-own.ensures in
    let held = c.columns.ensures ∙ c.fill_tables.ensures in
    body_by_tables _ c.head_counts-n.ensures c.requires _ held (filled_fits _ _ _ held blank) c.mark_refusal.ensures
    (tells_refusal c.tables_refusal.ensures) c.marks_first.ensures
