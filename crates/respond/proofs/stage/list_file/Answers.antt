-- `respond::stage::list_file` meets its contract: by the reader's answer, on tables that are long enough. Assumes nothing.
use native.Mathlib.Omega.{arith}
use Rattle.script.specs.Bytes.{byte_at}
use Rattle.streams.proofs.Files.{blank_long}
use Rattle.respond.proofs.Holding.{file_listed, never_listed}
use Rattle.respond.proofs.stage.list_file.Goals as goal

pub returns-in-Ok : goal.returns-in-Ok
unfolding byte_at
returns-in-Ok c =
    file_listed (blank_long c.new-tables.ensures) c.read_tables.ensures (record { below = λ i. omega (arith, c.type_inv.file i) }) c.in-Ok.is
    (rw c.columns.ensures at c.list_at.ensures)

pub returns-in-Err : goal.returns-in-Err
returns-in-Err c = never_listed (blank_long c.new-tables.ensures) c.read_tables.ensures c.in-Err.is
