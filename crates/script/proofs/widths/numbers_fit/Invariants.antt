-- `script::widths::numbers_fit` meets its contract: a number that was read has 32 bits. Assumes nothing.
use Rattle.std.proofs.Common.{ℕ, ◌<◌, pos, get_or}
use Rattle.lambdamix.specs.Arithmetic.{Fits32}
use Rattle.script.proofs.widths.numbers_fit.Given as goal

abbrev pub invariant-loop-z : goal.invariant-loop-z
invariant-loop-z l = (j : ℕ) → j < l.z-index → Fits32 (get_or l.s j (pos 0))
