-- `script::search::first_failing` meets its contract: the places before the one that is tried pass, by any test that the closure decides.
-- Assumes nothing.
use Rattle.std.proofs.Common.{◌≡◌, ◌<◌, ℕ, Bool}
use Rattle.script.proofs.Searching.{Searching}
use Rattle.script.proofs.search.first_failing.Given as goal

abbrev pub invariant-loop-j : goal.invariant-loop-j
invariant-loop-j g l =
    (p : ℕ → Bool) → ((j : ℕ) (b : Bool) → j < l.count → g.F.Fn.post l.passes (j, tt) b → b ≡ p j) → Searching p l.j l.count
