-- What the functions of a program promise of its answer: of a script that is held, of the reader's answer, of the whole input. They go by the texts that the
-- program prints. No public contract cites this: it is a step of the proof. Assumes nothing.
use Rattle.std.specs.Prelude.{ℕ, ◌≤◌, ◌≡◌, List, length, Err, Ok}
use Rattle.lambdamix.specs.Limits.{max_bytes}
use Rattle.script.specs.declared.Counts.{Counts}
use Rattle.script.specs.declared.Refusal.{Refusal}
use Rattle.script.specs.Answers.{Reading}
use Rattle.script.specs.Tables.{Tables}
use Rattle.file.specs.Encodable.{AllBytes}
use Rattle.streams.specs.Input.{script_part, settings_part}
use Rattle.streams.specs.Printed.{Prints}
use Rattle.streams.specs.Held.{Held}

-- what a program prints: for a script file and the bytes after it, and for number and place of a refusal
pub record Texts : Type 0 where
  pub answer : List ℕ → List ℕ → List ℕ
  pub refusal : ℕ → ℕ → List ℕ

-- a script that is held is answered, with what follows it
pub record AnswersScript (t : Texts) (n : Counts) (x : Tables) (rest out printed : List ℕ) (r : ℕ) : Type 0 where
  pub answers : (bs : List ℕ) → Held bs n x → AllBytes rest → max_bytes ≤ length out → Prints (t.answer bs rest) out printed r

-- the reader's answer is answered: a refusal is told as it is
pub record AnswersReading (t : Texts) (told : Reading) (x : Tables) (rest out printed : List ℕ) (r : ℕ) : Type 0 where
  pub refused : (f : Refusal) → told ≡ Err f → Prints (t.refusal f.number f.place) out printed r
  pub read : (n : Counts) → told ≡ Ok n → AnswersScript t n x rest out printed r

-- an input is answered
pub record Answers (t : Texts) (input out printed : List ℕ) (r : ℕ) : Type 0 where
  pub answers : max_bytes ≤ length out → Prints (t.answer (script_part input) (settings_part input)) out printed r
