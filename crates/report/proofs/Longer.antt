-- The first `max_bytes` bytes of an input decide what `benchrun` prints for it: numbers that are too many for any script are 12. Assumes nothing.
use Prim.Native.Nat.{ℕ, ◌≤◌}
use mathlib.Core.Path.{◌≡◌, ap}
use mathlib.Core.List.{List}
use lib.ListN.{length, take}
use Rattle.lambdamix.specs.Limits.{max_bytes}
use Rattle.lambdamix.specs.Refusal.{or_else}
use Rattle.script.specs.File.{script_in}
use Rattle.streams.proofs.Files.{few_inputs}
use Rattle.streams.proofs.Longer.{TellsMany, first_bytes}
use Rattle.report.specs.Report.{program_refusal, program_ran, reply_text, report}
use Rattle.report.specs.Stages.{ran_texts}
use Rattle.report.proofs.GivenNumbers.{twelve, many_numbers}
use Rattle.report.proofs.Answering.{tells_refused}

tells_many : TellsMany ran_texts
unfolding program_ran program_refusal or_else
tells_many =
    record {
      many = λ file. reply_text twelve;
      told = λ file rest e h. rw e (ap reply_text (many_numbers (script_in file) (few_inputs file e) rest h));
    }

-- Theorem: the first bytes decide.
pub longer_input : (bs : List ℕ) → max_bytes ≤ length bs → report (take max_bytes bs) ≡ report bs
unfolding report
longer_input bs long = first_bytes ran_texts tells_refused tells_many bs long
