-- `streams::room::answered` meets its contract: the output is long enough for every answer, or 21. Assumes nothing.
use Prim.Native.Nat.{ℕ, ◌≤◌, ◌<◌}
use mathlib.Core.Path.{◌≡◌}
use mathlib.Core.List.{List}
use native.Mathlib.Omega.{arith}
use lib.ListN.{length}
use Rattle.std.specs.Prelude.{Ok}
use Rattle.lambdamix.specs.Limits.{max_bytes}
use Rattle.text.specs.Places.{most}
use Rattle.streams.specs.Printed.{Prints}
use Rattle.streams.specs.Responds.{Responds}
use Rattle.streams.proofs.Responding.{call_answered, call_short}
use Rattle.streams.proofs.room.answered.Goals as goal

-- as many bytes are told as the answer counts
call_counted :
    {text out printed : List ℕ} {m n : ℕ} → n ≡ m → max_bytes ≤ length out → length out < most → Prints text out printed m →
    Responds text out printed (Ok n)
call_counted e long small p = rw e (call_answered long small p)

pub returns-then-out-lt-MAX_BYTES : goal.returns-then-out-lt-MAX_BYTES
unfolding max_bytes
returns-then-out-lt-MAX_BYTES g c = λ text h. rw c.at.ensures (call_short (omega arith))

pub returns : goal.returns
unfolding max_bytes
returns g c = λ text h.
    call_counted {m = c.answer.result} (omega arith) (omega arith) (omega (arith, c.well_formed)) (h _ _ _ (omega arith) (search c.answer.ensures))
