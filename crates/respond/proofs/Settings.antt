-- The maker's call with the settings that were given is its call with the settings behind the script. Assumes nothing.
use Prim.Native.Nat.{ℕ, ◌≤◌}
use mathlib.Core.Path.{◌≡◌}
use mathlib.Core.Bool.{true}
use mathlib.Core.List.{List}
use lib.IntN.{ℤ}
use lib.ListN.{length, take}
use Rattle.lambdamix.specs.declared.Mode.TheVariants.{Making}
use Rattle.lambdamix.specs.Limits.{program_fuel}
use Rattle.script.specs.declared.Counts.{Counts}
use Rattle.script.specs.Tables.{Tables, over}
use Rattle.cells.specs.Room.{Stores, stores_suffice}
use Rattle.residual.specs.AfterRun.{Told}
use Rattle.specializer.specs.Entry.{Makes}
use Rattle.streams.specs.Given.{program_settings}
use Rattle.streams.specs.Given.{given_count, given_settings}
use Rattle.streams.proofs.Splitting.{first_given}
use Rattle.respond.specs.Stages.{MakesGiven}

pub makes_given :
    {n : Counts} {x : Tables} {file made : List ℕ} {ws : List ℤ} {count : ℕ} {before after : Stores} {r : Told} →
    (zs : List ℤ) (rest : List ℕ) →
    count ≡ given_count rest → program_settings ≤ length zs → (program_settings ≤ length zs → ws ≡ over (given_settings rest) zs) →
    stores_suffice program_fuel before ≡ true →
    Makes Making n x (take count ws) program_fuel before after file made r → MakesGiven n x rest file made r
makes_given {before = before} zs rest e l d enough m =
    let k = rw (first_given zs rest e l d) at m in
    record { stores = before; enough = enough; gives = rw (k.reply, k.output) }
