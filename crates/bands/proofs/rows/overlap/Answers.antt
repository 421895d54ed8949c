-- `bands::rows::overlap` meets its contract: by the search. Assumes nothing.
use Rattle.std.proofs.Common.{ap, ◌∙◌}
use borrow.Author.Rules.{rules}
use Rattle.lambdamix.specs.Refusal.{refused_at}
use Rattle.bands.specs.Rows.{above_before}
use Rattle.bands.specs.Calls.{columns_in, rows_in}
use Rattle.bands.proofs.RowTests.{above_told}
use Rattle.bands.proofs.rows.overlap.Goals as goal

pub returns : goal.returns
returns c =
    let x = columns_in c.args.rows.now in
    c.at_first.ensures
    ∙ ap (refused_at 31)
    (c.first_failing.ensures (above_before (rows_in c.args.count x)) (λ j b l q. above_told _ x.low x.high x.grade l (search rules)))
