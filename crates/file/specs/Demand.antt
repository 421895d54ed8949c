-- Demand 3, whole, in the words of paper 01, "The words of demand 3": of the run of a script with these settings and this fuel. The names in code
-- are the matter of the crate `lambdamix`; accepted is none of 1 to 11, through the bytes (AcceptedFile.antt). Assumes nothing.
use Rattle.std.specs.Prelude.{ℕ, ◌≡◌, true, List, ℤ}
use Rattle.lambdamix.specs.Script.{Script}
use Rattle.lambdamix.specs.Code.{Code, fits, written}
use Rattle.lambdamix.specs.Value.{Value, code, clash, done}
use Rattle.lambdamix.specs.Specializing.{root_run, specialized, finished, halted}
use Rattle.lambdamix.specs.Demand.{ProperNames}
use Rattle.script.specs.File.{file_bytes}
use Rattle.file.specs.AcceptedFile.{AcceptedFile}

pub record DemandThree (s : Script) (zs : List ℤ) (fuel : ℕ) : Type 0 where
  -- "no run takes number, code and function for one another"
  pub no_clash : (i k : ℕ) → ¬ (specialized s zs fuel ≡ halted (clash i) k)
  -- "a run that finishes finishes with code": the value that the root's visit returns
  pub with_code : (v : Value) (l y : ℕ) → root_run s zs fuel ≡ done v l y → (c : Code) × (v ≡ code c)
  -- "every name in it is a late input's or is used inside its own binder, whatever its size"
  pub proper_names : (c : Code) (k : ℕ) → specialized s zs fuel ≡ finished c k → ProperNames s c
  -- "wherever it fits a script file, the checker accepts that file again", "however short the output"
  pub accepted_again :
      (c : Code) (k : ℕ) → specialized s zs fuel ≡ finished c k → fits c ≡ true → AcceptedFile (file_bytes (written s c))
