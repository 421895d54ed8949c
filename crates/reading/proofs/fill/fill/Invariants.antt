-- `reading::fill::fill` meets its contract: the places before the next one hold their elements. Assumes nothing.
use Rattle.std.proofs.Common.{◌≡◌, ◌<◌, ℕ}
use Rattle.script.specs.File.{numbered}
use Rattle.script.specs.Tables.{over}
use Rattle.reading.proofs.fill.fill.Given as goal

abbrev pub invariant-loop-j : goal.invariant-loop-j
invariant-loop-j g l =
    (f : ℕ → _) → ((j : ℕ) (v : _) → j < l.count → g.F.Fn.post l.element (j, tt) v → v ≡ f j) → l.column ≡ over (numbered f 0 l.j) l.initial.column
