-- Trials of requests 2.1 and 2.2, whole: every byte that `benchrun` prints for input A on 40 and 5, and on the first settings above the range and below
-- it, by computation. Assumes nothing.
use Prim.Native.Nat.{ℕ}
use mathlib.Core.Path.{◌≡◌, refl}
use mathlib.Core.List.{List, ◌++◌}
use lib.IntN.{ℤ, pos, negsuc}
use Rattle.lambdamix.specs.Text.{ascii}
use Rattle.lambdamix.specs.Trials.{input_a}
use Rattle.lambdamix.proofs.Computing.{computing}
use Rattle.script.specs.Bytes.{bits32, bytes32}
use Rattle.script.specs.File.{file_bytes}
use Rattle.file.proofs.FileTrials.{reading}
use Rattle.plainrun.specs.Running.{after_plain, ran_unless}
use Rattle.streams.specs.Input.{head_right, script_length_by, script_length, script_part, settings_part, setting_marked, whole_settings, setting_at, settings}
use Rattle.streams.specs.Lines.{pair_text}
use Rattle.report.specs.Report.{program_refusal, program_ran, steps_text, outcome_text, unfinished_text, reply_text, report}

-- input A on the setting z and the reading 5
abbrev pub input_on : ℤ → List ℕ
input_on z = file_bytes input_a ++ (ascii "SV" ++ bytes32 (bits32 z) ++ (ascii "SV" ++ bytes32 (bits32 (pos 5))))

pub input_a_reported :
    (report (input_on (pos 40)) ≡ ascii "steps 5\n1\n")
    × (report (input_on (pos 21474837)) ≡ ascii "stopped 24 2\n")
    × (report (input_on (negsuc 21474836)) ≡ ascii "stopped 29 2\n")
unfolding computing reading head_right script_length_by script_length script_part settings_part setting_marked whole_settings setting_at settings
    after_plain ran_unless pair_text program_refusal program_ran steps_text outcome_text unfinished_text reply_text report
input_a_reported = (refl, refl, refl)
