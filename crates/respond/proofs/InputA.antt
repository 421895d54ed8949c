-- Starred trials as the program prints them, every byte, by computation: input A with 40, which paper 01 gives whole ("With 40 it prints, whole: .."), and
-- with the first settings above the range and below it, which paper 02, 2.2, tells apart. Assumes nothing.
use Prim.Native.Nat.{ℕ}
use mathlib.Core.Path.{◌≡◌, refl}
use mathlib.Core.List.{List, ◌++◌}
use lib.IntN.{ℤ, pos, negsuc}
use Rattle.lambdamix.specs.Limits.{max_bytes}
use Rattle.lambdamix.specs.Text.{ascii}
use Rattle.lambdamix.specs.Trials.{input_a}
use Rattle.lambdamix.proofs.Computing.{computing}
use Rattle.script.specs.Bytes.{bits32, bytes32}
use Rattle.script.specs.File.{file_bytes}
use Rattle.file.proofs.FileTrials.{reading}
use Rattle.script.specs.Tables.{over}
use Rattle.residual.specs.AfterRun.{written_by, after_run}
use Rattle.specializer.specs.Making.{made_unless, made_file}
use Rattle.respond.specs.Response.{program_refusal, program_made, reply_text, made_text, response}
use Rattle.streams.specs.Lines.{pair_text, unmade_text, counts_text}
use Rattle.streams.specs.Input.{head_right, script_length_by, script_length, script_part, settings_part, setting_marked, whole_settings, setting_at, settings}

-- input A with the setting z
abbrev pub input_with : ℤ → List ℕ
input_with z = file_bytes input_a ++ (ascii "SV" ++ bytes32 (bits32 z))

pub input_a_printed :
    (response (input_with (pos 40)) ≡ ascii "accepted\nsteps 6\nnodes 4\n(< i1 4000)\n")
    × (response (input_with (pos 21474837)) ≡ ascii "accepted\nstopped 24 2\n")
    × (response (input_with (negsuc 21474836)) ≡ ascii "accepted\nstopped 29 2\n")
unfolding computing reading head_right script_length_by script_length script_part settings_part setting_marked whole_settings setting_at settings
    over written_by after_run made_unless made_file program_refusal program_made pair_text unmade_text counts_text reply_text made_text max_bytes response
input_a_printed = (refl, refl, refl)
