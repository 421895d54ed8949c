-- `walks::structure::count_one` meets its contract: the node's count grows by one unless it is two already. Assumes nothing.
use native.Mathlib.Omega.{arith}
use Rattle.walks.proofs.UseCounts.{counted_more, counted_full}
use Rattle.walks.proofs.structure.count_one.Goals as goal

pub returns-then-n-lt2 : goal.returns-then-n-lt2
returns-then-n-lt2 c =
    let at-put = c.put in
    let at-n = c.at-n in
    let at-args = c.args in
    rw (at-put.ensures, at-n.ensures) (counted_more at-args.counts.now at-args.m.0)

pub returns-else-n-lt2 : goal.returns-else-n-lt2
returns-else-n-lt2 c =
    let at-args = c.args in
    counted_full at-args.counts.now at-args.m.0 (omega (arith, c.at-n.ensures, c.if-n-lt2.false))
