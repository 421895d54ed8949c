-- Tables of which none of refusals 1 to 8 holds have a sound script. Assumes nothing.
use Rattle.script.specs.declared.Counts.{Counts}
use Rattle.script.specs.Tables.{Tables, tables_refusal}
use Rattle.script.proofs.RefusalLaws.{neither}
use Rattle.script.proofs.Sound.{Sound, sound}
use Rattle.annotation.specs.AnswerWords.{Passes}
use Rattle.annotation.specs.Checks.{script_of}

pub passes_sound : (n : Counts) (x : Tables) → Passes n x → Sound (script_of n x)
unfolding tables_refusal
passes_sound n x e = sound _ (neither _ _ e).1
