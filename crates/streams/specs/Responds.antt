-- What a program's function on slices promises, for every call, of the text that the program prints for an input: it is written or refused, as a listing is.
-- An output below 65,536 bytes is 21, before all else. Assumes nothing.
use Rattle.std.specs.Prelude.{ℕ, List, length, leb}
use Rattle.std.proofs.Math.Option.{Option}
use Rattle.lambdamix.specs.Limits.{max_bytes}
use Rattle.lambdamix.specs.Refusal.{Refusal, refused_unless}
use Rattle.script.specs.Answers.{Writing}
use Rattle.script.specs.Replies.{WritesText}

-- "21: output too short [0]": of an output that is too short for some answer
unfoldable pub output_refusal : List ℕ → Option Refusal
output_refusal out = refused_unless (leb max_bytes (length out)) 21 0

-- of the text that is printed for the input
abbrev pub Responds : List ℕ → List ℕ → List ℕ → Writing → Type 0
Responds text out left r = WritesText (output_refusal out) text out left r
