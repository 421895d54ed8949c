-- `report::answer::answer` meets its contract: by the reader's answer, on tables that are long enough. Assumes nothing.
use native.Mathlib.Omega.{arith}
use Rattle.script.specs.Bytes.{byte_at}
use Rattle.streams.proofs.Files.{blank_long}
use Rattle.streams.proofs.Splitting.{end_within}
use Rattle.streams.proofs.Responding.{input_answered, answered_read, answered_refused}
use Rattle.report.proofs.Answering.{tells_refused, answered_ran}
use Rattle.report.proofs.answer.answer.Goals as goal

pub returns-in-Ok : goal.returns-in-Ok
unfolding byte_at
returns-in-Ok c =
    input_answered _ tells_refused _ (blank_long c.new-tables.ensures) c.script_end.ensures c.split_at.ensures.front c.split_at.ensures.back c.read_tables.ensures
    (record { below = λ i. omega (arith, c.type_inv.input i) })
    (answered_read c.in-Ok.is (answered_ran (rw c.columns.ensures at c.run_given.ensures) c.print_reply.ensures))

pub returns-in-Err : goal.returns-in-Err
unfolding byte_at
returns-in-Err c =
    input_answered _ tells_refused _ (blank_long c.new-tables.ensures) c.script_end.ensures c.split_at.ensures.front c.split_at.ensures.back c.read_tables.ensures
    (record { below = λ i. omega (arith, c.type_inv.input i) })
    (answered_refused c.in-Err.is c.print_unfinished.ensures)
