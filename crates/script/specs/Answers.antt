-- The answers of searches, checks, reader and writer, as the code gives them: a place or none; nothing, the counts that were read or the bytes that were
-- written, or else what refuses it. Assumes nothing.
use Rattle.std.specs.Prelude.{ℕ}
use Rattle.std.specs.declared.option.Option.{Option}
use Rattle.std.specs.declared.result.Result.{Result}
use Rattle.script.specs.declared.Counts.{Counts}
use Rattle.script.specs.declared.Refusal.{Refusal}
use Rattle.script.specs.declared.Unfinished.{Unfinished}

abbrev pub Found : Type 0
Found = Option ℕ

abbrev pub Verdict : Type 0
Verdict = Result (Unit {0}) Refusal

abbrev pub Reading : Type 0
Reading = Result Counts Refusal

abbrev pub Writing : Type 0
Writing = Result ℕ Refusal

-- a reply without a result where this refuses the call before its run
abbrev pub unfinished_at_once : Refusal → Unfinished
unfinished_at_once f = record { refusal = f; steps = 0 }
