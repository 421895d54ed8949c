-- `standard::program::run` meets its contract: what is written is the answer to the bytes that were read. Assumes nothing.
use Rattle.std.specs.Prelude.{OnOk}
use Rattle.std.specs.declared.option.Option.{Option}
use Rattle.std.specs.declared.result.Result.{Result}
use Rattle.std.specs.Io.KnownBytes.{Appends}
use Prim.Native.Nat.{ℕ, ◌≤◌}
use mathlib.Core.Path.{◌≡◌, refl}
use mathlib.Core.List.{List}
use native.Mathlib.Omega.{arith}
use lib.ListN.{length, take}
use Rattle.lambdamix.specs.Limits.{max_bytes}
use Rattle.std.proofs.lemmas.Result.{on_ok_weaker}
use Rattle.standard.proofs.Programs.{answer_written, answer_refused}
use Rattle.standard.proofs.program.run.Goals as goal

-- as many bytes are printed as the answer counts
all_printed :
    {T E A : Type 0} (r : Result T E) (left : List ℕ) (old new : Option (List ℕ)) {k n : ℕ} →
    (k ≤ length left) × (Appends old new (take k left) → A) → (n ≤ length left → OnOk r (Appends old new (take n left))) → n ≡ k → OnOk r A
all_printed r left old new a w e = let v = rw e at w in on_ok_weaker r a.1 (v a.0)

pub returns-in-Ok : goal.returns-in-Ok
unfolding max_bytes
returns-in-Ok g c = λ text h.
    all_printed _ _ _ _ (answer_written text _ _ _ refl c.respond.auto.arg3 (h _ _ _ _ c.in-Ok.ensures) c.read_input-n.ensures.bytes) c.print.ensures.written (omega arith)

pub returns-in-Err : goal.returns-in-Err
unfolding max_bytes
returns-in-Err g c = λ text h. answer_refused refl c.respond.auto.arg3 (h _ _ _ _ c.in-Err.ensures)
