-- A call is answered by its input, where the output is long enough. Assumes nothing.
use Rattle.std.specs.Prelude.{Err, Ok}
use Prim.Native.Nat.{ℕ, ◌≤◌, ◌<◌}
use mathlib.Core.Path.{◌≡◌, sym}
use mathlib.Core.List.{List}
use lib.ListN.{length}
use Rattle.lambdamix.specs.Limits.{max_bytes}
use Rattle.script.specs.Replies.{writing_reply, replying}
use Rattle.script.specs.Tables.{written_output}
use Rattle.script.specs.File.{head_inputs}
use Rattle.text.specs.Places.{most}
use Rattle.streams.specs.Input.{script_part, settings_part}
use Rattle.streams.specs.Responds.{output_refusal, Responds}
use Rattle.streams.specs.Answers.{Answers}
use Rattle.streams.proofs.Responding.{call_answered, call_short}
use Rattle.respond.specs.Response.{program_made, made_text}
use Rattle.respond.specs.Stages.{made_texts}

pub input_written :
    {input out printed : List ℕ} {n : ℕ} → max_bytes ≤ length out → length out < most → Answers made_texts input out printed n →
    Responds (made_text (head_inputs (script_part input)) (program_made (script_part input) (settings_part input))) out printed (Ok n)
input_written long small a = call_answered long small (a.answers long)

-- one that is too short is told, and left as it was
module _ (text out : List ℕ) (short : length out < max_bytes) where
  refused : Responds text out out (Err (record { number = 21; place = 0 }))
  refused = call_short short

  pub short_told : replying (output_refusal out) (length text) ≡ writing_reply (Err (record { number = 21; place = 0 }))
  short_told = sym refused.reply

  pub short_left : written_output (output_refusal out) text out ≡ out
  short_left = sym refused.output
