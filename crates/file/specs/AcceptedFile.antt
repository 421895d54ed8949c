-- "a script is accepted if none of refusals 1 to 11 holds of it", for the bytes of its file. Assumes nothing.
use Rattle.std.specs.Prelude.{ℕ, ◌≡◌, List}
use Rattle.std.proofs.Math.Option.{none}
use Rattle.lambdamix.specs.Checker.{annotation_refusal}
use Rattle.script.specs.File.{script_in}
use Rattle.script.specs.Refusals.{file_refusal}

pub record AcceptedFile (bs : List ℕ) : Type 0 where
  -- 1 to 8
  pub read : file_refusal bs ≡ none
  -- 9 to 11
  pub annotated : annotation_refusal (script_in bs) ≡ none
