-- What `benchrun` prints for any standard input: a script file, then an `SV` record for each input, in order. What it tells is what the plain run's call
-- gives: `ran_unless` of the crate `plainrun`, with the most fuel that a run may have. Assumes nothing.
use Rattle.std.specs.Prelude.{ℕ, Bool, true, false, List, ◌++◌, ltb}
use Rattle.std.proofs.Math.Option.{Option}
use Rattle.lambdamix.specs.Limits.{max_fuel}
use Rattle.lambdamix.specs.Refusal.{Refusal, or_else, refused_unless}
use Rattle.lambdamix.specs.PlainRun.{Outcome, a_number, a_function, plain_refusal}
use Rattle.lambdamix.specs.Text.{ascii, digits, decimal}
use Rattle.script.specs.File.{script_in}
use Rattle.script.specs.Refusals.{file_refusal}
use Rattle.plainrun.specs.Running.{Reply, ran, unfinished, ran_unless}
use Rattle.streams.specs.Input.{script_part, settings_part, whole_settings, settings}
use Rattle.streams.specs.Lines.{pair_text}

-- what is refused before the run of a script file with the bytes after it: 1 to 8; bytes that are not whole `SV` records give 12, in 12's place; then as in
-- every call, on a store that suffices
unfoldable pub program_refusal : List ℕ → List ℕ → Option Refusal
program_refusal file rest =
    or_else (file_refusal file)
    (or_else (refused_unless (whole_settings rest) 12 0) (plain_refusal (script_in file) (settings rest) max_fuel true))

unfoldable pub program_ran : List ℕ → List ℕ → Reply
program_ran file rest = ran_unless (program_refusal file rest) (script_in file) (settings rest) max_fuel

-- "`steps N`", on its own line
unfoldable pub steps_text : ℕ → List ℕ
steps_text k = ascii "steps " ++ digits k ++ ascii "\n"

-- "the number or `a function`"
unfoldable pub outcome_text : Outcome → List ℕ
outcome_text (a_number z) = decimal z
outcome_text a_function = ascii "a function"

-- "`refused N P` alone (1 to 13), or `stopped N P` alone"
abbrev pub unfinished_word : Bool → List ℕ
unfinished_word true = ascii "refused "
unfinished_word false = ascii "stopped "

unfoldable pub unfinished_text : Bool → ℕ → ℕ → List ℕ
unfinished_text b n p = pair_text (unfinished_word b) n (ascii " ") p

unfoldable pub reply_text : Reply → List ℕ
reply_text (ran o k) = steps_text k ++ outcome_text o ++ ascii "\n"
reply_text (unfinished f k) = unfinished_text (ltb f.number 20) f.number f.place

-- every byte that the program prints for an input
unfoldable pub report : List ℕ → List ℕ
report bs = reply_text (program_ran (script_part bs) (settings_part bs))
