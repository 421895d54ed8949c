-- `bands::rows::gap` meets its contract: by the search, up to the place after the last row. Assumes nothing.
use Rattle.std.proofs.Common.{ap, ◌∙◌, add-one}
use borrow.Author.Rules.{rules}
use Rattle.lambdamix.specs.Refusal.{refused_at}
use Rattle.bands.specs.Rows.{joins_before}
use Rattle.bands.specs.Calls.{columns_in, rows_in}
use Rattle.bands.proofs.RowTests.{joins_told}
use Rattle.bands.proofs.rows.gap.Goals as goal

pub returns : goal.returns
returns c =
    let x = columns_in c.args.rows.now in
    c.at_first.ensures
    ∙ ap (refused_at 32)
    (rw add-one at (c.first_failing.ensures (joins_before (rows_in c.args.count x)) (λ j b l q. joins_told _ x.low x.high x.grade (rw add-one at l) (search rules))))
