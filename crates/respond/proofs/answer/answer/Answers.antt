-- `respond::answer::answer` meets its contract: by the reader's answer, on tables that are long enough. Assumes nothing.
use Prim.Native.Nat.{ℕ}
use mathlib.Core.Path.{◌≡◌}
use mathlib.Core.List.{List}
use native.Mathlib.Omega.{arith}
use lib.Seq.{take_all}
use Rattle.script.specs.declared.Counts.{Counts}
use Rattle.script.specs.Bytes.{byte_at}
use Rattle.script.specs.Tables.{Tables}
use Rattle.streams.specs.Answers.{AnswersScript, Texts}
use Rattle.streams.proofs.Files.{blank_long}
use Rattle.streams.proofs.Responding.{input_answered, answered_read, answered_refused}
use Rattle.respond.proofs.Making.{tells_refused}
use Rattle.respond.proofs.answer.answer.Goals as goal

-- bytes that are those behind the script serve as them
handed_on :
    {t : Texts} {n : Counts} {x : Tables} {rest given out printed : List ℕ} {r : ℕ} →
    AnswersScript t n x given out printed r → given ≡ rest → AnswersScript t n x rest out printed r
handed_on a e = rw e at a

pub returns-in-Ok : goal.returns-in-Ok
unfolding byte_at
returns-in-Ok c =
    input_answered _ tells_refused _ (blank_long c.new-tables.ensures) c.script_end.ensures c.split_at.ensures.front c.split_at.ensures.back c.read_tables.ensures
    (record { below = λ i. omega (arith, c.type_inv.input i) })
    (answered_read c.in-Ok.is (handed_on (rw c.columns.ensures at c.answer_script.ensures) (grind (arith, take_all))))

pub returns-in-Err : goal.returns-in-Err
unfolding byte_at
returns-in-Err c =
    input_answered _ tells_refused _ (blank_long c.new-tables.ensures) c.script_end.ensures c.split_at.ensures.front c.split_at.ensures.back c.read_tables.ensures
    (record { below = λ i. omega (arith, c.type_inv.input i) })
    (answered_refused c.in-Err.is c.print_unmade.ensures)
