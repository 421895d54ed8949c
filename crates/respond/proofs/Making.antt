-- What the program tells is what the maker's call gives of a script that is held; a file that is refused is told as it is. Assumes
-- nothing.
use Prim.Native.Nat.{ℕ}
use mathlib.Core.Path.{◌≡◌, ◌∙◌}
use mathlib.Core.Bool.{true}
use mathlib.Core.List.{List}
use mathlib.Core.Option.{some}
use lib.IntN.{ℤ}
use lib.ListN.{replicate}
use lib.Dec.{ltb}
use Rattle.lambdamix.specs.declared.Mode.TheVariants.{Making}
use Rattle.lambdamix.specs.Limits.{program_fuel, max_bytes}
use Rattle.lambdamix.specs.Refusal.{Refusal, or_else}
use Rattle.lambdamix.specs.Specializing.{later_refusal}
use Rattle.script.specs.declared.Counts.{Counts}
use Rattle.script.specs.File.{head_inputs, script_in}
use Rattle.script.specs.Refusals.{file_refusal}
use Rattle.script.specs.Tables.{Tables}
use Rattle.cells.specs.Room.{Stores, stores_suffice}
use Rattle.residual.specs.AfterRun.{Told, call_result}
use Rattle.specializer.specs.Making.{refusal_before, made_unless, making}
use Rattle.streams.specs.Lines.{unmade_text}
use Rattle.respond.specs.Response.{program_refusal, program_made, reply_text, made_text}
use Rattle.streams.specs.Held.{Held}
use Rattle.respond.specs.Stages.{MakesGiven, made_texts}
use Rattle.streams.proofs.Files.{few_inputs, held_passes}
use Rattle.streams.proofs.Responding.{TellsRefused}
use Rattle.respond.proofs.GivenSettings.{given_made}

module _ {bs : List ℕ} {n : Counts} {x : Tables} (h : Held bs n x) where
  making_is :
      (zs : List ℤ) (m : Stores) (out : List ℕ) → stores_suffice program_fuel m ≡ true →
      making Making n.types n.inputs n.nodes x zs program_fuel m out
      ≡ made_unless (later_refusal Making (script_in bs) zs program_fuel true) (script_in bs) zs program_fuel out
  unfolding making refusal_before or_else
  making_is zs m out enough = rw (held_passes h, h.script, enough)

  -- a file of zeros, with room for every file
  pub program_made_lem :
      {rest file left : List ℕ} {r : Told} → MakesGiven n x rest file left r → file ≡ replicate max_bytes 0 →
      call_result r left ≡ program_made bs rest
  unfolding program_made program_refusal or_else
  program_made_lem {rest} {file} m e =
      rw (h.read, ← e)
      (m.gives ∙ making_is _ m.stores file m.enough ∙ given_made (script_in bs) file (few_inputs bs h.read) rest)

-- a file that is refused is told as it is
pub tells_refused : TellsRefused made_texts
unfolding made_text program_made program_refusal or_else made_unless reply_text
tells_refused = record { told = refused_text }
  where
    refused_text :
        (file rest : List ℕ) (f : Refusal) → file_refusal file ≡ some f →
        made_text (head_inputs file) (program_made file rest) ≡ unmade_text (ltb f.number 20) f.number f.place
    refused_text file rest f e = rw e
