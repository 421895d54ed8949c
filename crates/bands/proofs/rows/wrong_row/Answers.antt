-- `bands::rows::wrong_row` meets its contract: by the search. Assumes nothing.
use Rattle.std.proofs.Common.{ap, ◌∙◌}
use borrow.Author.Rules.{rules}
use Rattle.lambdamix.specs.Refusal.{refused_at}
use Rattle.bands.specs.Rows.{band_right, band_at}
use Rattle.bands.specs.Calls.{columns_in, rows_in}
use Rattle.bands.proofs.RowTests.{right_told}
use Rattle.bands.proofs.rows.wrong_row.Goals as goal

pub returns : goal.returns
returns c =
    let x = columns_in c.args.rows.now in
    c.at_first.ensures
    ∙ ap (refused_at 30) (c.first_failing.ensures (λ k. band_right (band_at (rows_in c.args.count x) k)) (λ j b l q. right_told _ x l (search rules)))
