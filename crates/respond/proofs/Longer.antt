-- The first `max_bytes` bytes of an input decide what `benchmake` prints for it: settings that are too many for any script are 12. Assumes nothing.
use Prim.Native.Nat.{ℕ, ◌≤◌}
use mathlib.Core.Path.{◌≡◌, ap}
use mathlib.Core.List.{List}
use lib.ListN.{length, take, replicate}
use Rattle.lambdamix.specs.Limits.{max_bytes}
use Rattle.lambdamix.specs.Refusal.{or_else}
use Rattle.script.specs.File.{head_inputs, script_in}
use Rattle.streams.proofs.Files.{few_inputs}
use Rattle.streams.proofs.Longer.{TellsMany, first_bytes}
use Rattle.respond.specs.Response.{program_refusal, program_made, made_text, response}
use Rattle.respond.specs.Stages.{made_texts}
use Rattle.respond.proofs.GivenSettings.{twelve_made, many_settings}
use Rattle.respond.proofs.Making.{tells_refused}

tells_many : TellsMany made_texts
unfolding program_made program_refusal or_else
tells_many =
    record {
      many = λ file. made_text (head_inputs file) (twelve_made (script_in file) (replicate max_bytes 0));
      told = λ file rest e h.
          rw e (ap (made_text (head_inputs file)) (many_settings (script_in file) (replicate max_bytes 0) (few_inputs file e) rest h));
    }

-- Theorem: the first bytes decide.
pub longer_input : (bs : List ℕ) → max_bytes ≤ length bs → response (take max_bytes bs) ≡ response bs
unfolding response
longer_input bs long = first_bytes made_texts tells_refused tells_many bs long
