-- `annotation::typing::function` meets its contract: no place passed has the word. Assumes nothing.
use Rattle.std.proofs.Common.{◌≡◌, ◌<◌, ℕ, get_or}
use Rattle.annotation.proofs.typing.function.Given as goal

abbrev pub invariant-loop-j : goal.invariant-loop-j
invariant-loop-j l = (k : ℕ) → k < l.j → get_or l.types k 0 ≡ l.w → ⊥
