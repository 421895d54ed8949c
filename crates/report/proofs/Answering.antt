-- A script that is held is answered as the plain run's call says; a file that is refused is told as it is. Assumes nothing.
use Prim.Native.Nat.{ℕ, ◌≤◌}
use mathlib.Core.Path.{◌≡◌, ◌∙◌}
use mathlib.Core.Bool.{true}
use mathlib.Core.List.{List}
use mathlib.Core.Option.{some}
use lib.IntN.{ℤ}
use lib.ListN.{length, take}
use lib.Dec.{ltb}
use Rattle.lambdamix.specs.Limits.{max_fuel}
use Rattle.lambdamix.specs.Refusal.{Refusal, or_else}
use Rattle.lambdamix.specs.PlainRun.{plain_refusal}
use Rattle.script.specs.declared.Counts.{Counts}
use Rattle.script.specs.File.{script_in}
use Rattle.script.specs.Refusals.{file_refusal}
use Rattle.script.specs.Tables.{Tables, over}
use Rattle.cells.specs.Room.{heap_suffices}
use Rattle.plainrun.specs.Running.{Told, refusal_before, ran_unless, running, replied, Runs}
use Rattle.streams.specs.Given.{program_settings, given_count, given_settings}
use Rattle.streams.specs.Held.{Held}
use Rattle.streams.specs.Printed.{Prints}
use Rattle.streams.specs.Answers.{AnswersScript}
use Rattle.streams.proofs.Files.{few_inputs, held_passes}
use Rattle.streams.proofs.Responding.{TellsRefused}
use Rattle.streams.proofs.Splitting.{first_given}
use Rattle.report.specs.Report.{program_refusal, program_ran, reply_text, unfinished_text}
use Rattle.report.specs.Stages.{RunsGiven, ran_texts}
use Rattle.report.proofs.GivenNumbers.{given_ran}

-- the call with the numbers that were given is the call with the numbers behind the script
pub runs_given :
    {n : Counts} {x : Tables} {ws : List ℤ} {count fuel : ℕ} {before after : List ℕ} {r : Told} (zs : List ℤ) (rest : List ℕ) →
    count ≡ given_count rest → fuel ≡ max_fuel → program_settings ≤ length zs →
    (program_settings ≤ length zs → ws ≡ over (given_settings rest) zs) → heap_suffices max_fuel (length before) ≡ true →
    Runs n x (take count ws) fuel before after r → RunsGiven n x rest r
runs_given {before = before} zs rest e f l d enough m =
    let k = rw (first_given zs rest e l d, f) at m in
    record { heap = before; enough = enough; gives = k.reply }

module _ {bs : List ℕ} {n : Counts} {x : Tables} (h : Held bs n x) where
  running_is :
      (zs : List ℤ) (heap : List ℕ) → heap_suffices max_fuel (length heap) ≡ true →
      running n.types n.inputs n.nodes x zs max_fuel heap ≡ ran_unless (plain_refusal (script_in bs) zs max_fuel true) (script_in bs) zs max_fuel
  unfolding running refusal_before or_else
  running_is zs heap enough = rw (held_passes h, h.script, enough)

  program_ran_lem : {rest : List ℕ} {r : Told} → RunsGiven n x rest r → replied r ≡ program_ran bs rest
  unfolding program_ran program_refusal or_else
  program_ran_lem {rest} m =
      rw h.read (m.gives ∙ running_is _ m.heap m.enough ∙ given_ran (script_in bs) (few_inputs bs h.read) rest)

-- the reply is told
pub answered_ran :
    {n : Counts} {x : Tables} {rest out printed : List ℕ} {reply : Told} {r : ℕ} → RunsGiven n x rest reply →
    Prints (reply_text (replied reply)) out printed r → AnswersScript ran_texts n x rest out printed r
answered_ran m p = record { answers = λ bs h all long. rw (← program_ran_lem h m) p }

-- a file that is refused is told as it is
pub tells_refused : TellsRefused ran_texts
unfolding program_ran program_refusal or_else ran_unless reply_text
tells_refused = record { told = refused_text }
  where
    refused_text :
        (file rest : List ℕ) (f : Refusal) → file_refusal file ≡ some f →
        reply_text (program_ran file rest) ≡ unfinished_text (ltb f.number 20) f.number f.place
    refused_text file rest f e = rw e
