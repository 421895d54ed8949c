-- What the stages of an answer promise: the plain run called. No public contract cites this: it is a step of the proof. Assumes nothing.
use Rattle.std.specs.Prelude.{ℕ, ◌≡◌, true, List, length, ltb}
use Rattle.lambdamix.specs.Limits.{max_fuel}
use Rattle.script.specs.declared.Counts.{Counts}
use Rattle.script.specs.Tables.{Tables}
use Rattle.cells.specs.Room.{heap_suffices}
use Rattle.plainrun.specs.Running.{Told}
use Rattle.plainrun.specs.Running.{running, replied}
use Rattle.streams.specs.Given.{given_settings}
use Rattle.streams.specs.Answers.{Texts}
use Rattle.report.specs.Report.{program_ran, unfinished_text, reply_text}

-- the plain run's call with the numbers that follow a script, in a store that suffices
pub record RunsGiven (n : Counts) (x : Tables) (rest : List ℕ) (r : Told) : Type 0 where
  pub heap : List ℕ
  pub enough : heap_suffices max_fuel (length heap) ≡ true
  pub gives : replied r ≡ running n.types n.inputs n.nodes x (given_settings rest) max_fuel heap

-- what `benchrun` prints
abbrev pub ran_texts : Texts
ran_texts =
    record {
      answer = λ file rest. reply_text (program_ran file rest);
      refusal = λ number place. unfinished_text (ltb number 20) number place;
    }
