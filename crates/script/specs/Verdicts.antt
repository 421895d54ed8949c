-- What inner functions answer, as proofs use it: what a search found, what a verdict refuses, and the answers that have a reply. No entry's contract
-- cites this file. Assumes nothing.
use Rattle.std.specs.Prelude.{ℕ, ◌<◌, List, ◌≡◌, Err, None, Ok, Some}
use Rattle.std.proofs.Math.Option.{Option, none, some}
use Rattle.lambdamix.specs.Refusal.{Refusal}
use Rattle.script.specs.declared.Counts.{Counts}
use Rattle.script.specs.Answers.{Verdict}
use Rattle.script.specs.Answers.{Reading}
use Rattle.script.specs.Answers.{Writing}
use Rattle.script.specs.Answers.{Found}
use Rattle.script.specs.Tables.{room_refusal}
use Rattle.script.specs.Replies.{WritesText}

-- a place, or none
unfoldable pub found_at : Found → Option ℕ
found_at None = none
found_at (Some i) = some i

-- what was found, if anything, is below n
abbrev pub FoundBelow : ℕ → Found → Type 0
FoundBelow n f = (j : ℕ) → found_at f ≡ some j → j < n

-- what a verdict refuses, if anything: for checks within a crate
unfoldable pub refusal_of : Verdict → Option Refusal
refusal_of (Ok u) = none
refusal_of (Err f) = some (record { number = f.number; place = f.place })

-- the answers of reader, writer and listing with this reply
unfoldable pub reading : Option Refusal → Counts → Reading
reading none n = Ok n
reading (some f) n = Err (record { number = f.number; place = f.place })

unfoldable pub writing : Option Refusal → ℕ → Writing
writing none k = Ok k
writing (some f) k = Err (record { number = f.number; place = f.place })

-- where only a short output refuses it
abbrev pub Fitted : List ℕ → List ℕ → List ℕ → Writing → Type 0
Fitted text before after r = WritesText (room_refusal text before) text before after r
