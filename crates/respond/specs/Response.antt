-- What `benchmake` prints for any standard input: paper 01, "Listing and program". What it tells is what the maker's call gives:
-- `made_unless` of the crate `specializer`. Assumes nothing.
use Rattle.std.specs.Prelude.{ℕ, true, List, ◌++◌, replicate, ltb}
use Rattle.std.proofs.Math.Option.{Option}
use Rattle.lambdamix.specs.declared.Mode.TheVariants.{Making}
use Rattle.lambdamix.specs.Limits.{program_fuel, max_bytes}
use Rattle.lambdamix.specs.Refusal.{Refusal, or_else, refused_unless}
use Rattle.lambdamix.specs.Checker.{annotation_refusal}
use Rattle.lambdamix.specs.Specializing.{later_refusal}
use Rattle.lambdamix.specs.Listing.{listing}
use Rattle.script.specs.File.{head_inputs, script_in}
use Rattle.script.specs.Refusals.{file_refusal}
use Rattle.residual.specs.AfterRun.{Reply, made, unmade, Made}
use Rattle.specializer.specs.Making.{made_unless, made_file}
use Rattle.streams.specs.Input.{script_part, settings_part, whole_settings, settings}
use Rattle.streams.specs.Lines.{unmade_text, counts_text}

-- what is refused before the run of a script file with the bytes after it: 1 to 8; 9 to 11; "Bytes after the script that aren't whole
-- `SV` records give 12", in 12's place; then as in every call, on stores that suffice
unfoldable pub program_refusal : List ℕ → List ℕ → Option Refusal
program_refusal file rest =
    or_else (file_refusal file)
    (or_else (annotation_refusal (script_in file))
    (or_else (refused_unless (whole_settings rest) 12 0) (later_refusal Making (script_in file) (settings rest) program_fuel true)))

-- what the maker gives, into zeros with room for every file
unfoldable pub program_made : List ℕ → List ℕ → Made
program_made file rest = made_unless (program_refusal file rest) (script_in file) (settings rest) program_fuel (replicate max_bytes 0)

-- the text of a reply: "Nodes counts the written tree", which is listed from its file, of i inputs, in the output
unfoldable pub reply_text : ℕ → List ℕ → Reply → List ℕ
reply_text i output (made k n) = counts_text k n ++ listing (script_in (made_file i n output))
reply_text i output (unmade f k) = unmade_text (ltb f.number 20) f.number f.place

unfoldable pub made_text : ℕ → Made → List ℕ
made_text i m = reply_text i m.output m.reply

-- every byte that the program prints for an input
unfoldable pub response : List ℕ → List ℕ
response bs = made_text (head_inputs (script_part bs)) (program_made (script_part bs) (settings_part bs))
