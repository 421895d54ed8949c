-- `reading::marks::unmarked` meets its contract: it searches. Assumes nothing.
use Prim.Native.Nat.{◌+◌, ◌*◌}
use mathlib.Core.Path.{ap}
use native.Mathlib.Omega.{arith}
use borrow.Author.Rules.{rules}
use Rattle.script.specs.Refusals.{marked, refused_record}
use Rattle.script.specs.Verdicts.{refusal_of, found_at}
use Rattle.script.proofs.Searching.{found_below}
use Rattle.reading.proofs.marks.unmarked.Goals as goal

pub overflow_cast-j : goal.overflow_cast-j
unfolding found_at
overflow_cast-j c =
    let h = c.first_failing.ensures (λ k. marked c.args.x c.args.y c.args.file.now (c.args.first + c.args.stride * k)) (λ j b l q. search rules) in
    let k = found_below _ _ _ {m = c.args.count} h (omega arith) c.in-Some.j (ap found_at c.in-Some.is) in
    omega arith

pub returns-in-Some : goal.returns-in-Some
unfolding found_at refusal_of refused_record
returns-in-Some c =
    let h = c.first_failing.ensures (λ k. marked c.args.x c.args.y c.args.file.now (c.args.first + c.args.stride * k)) (λ j b l q. search rules) in
    rw (← h, c.in-Some.is, c.at.ensures, c.place.ensures)

pub returns-in-None : goal.returns-in-None
unfolding found_at refusal_of refused_record
returns-in-None c =
    let h = c.first_failing.ensures (λ k. marked c.args.x c.args.y c.args.file.now (c.args.first + c.args.stride * k)) (λ j b l q. search rules) in
    rw (← h, c.in-None.is)
