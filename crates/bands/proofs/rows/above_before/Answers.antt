-- `bands::rows::above_before` meets its contract: the first row has none before it. Assumes nothing.
use Rattle.std.proofs.Common.{refl, ◌∙◌}
use borrow.Author.Rules.{rules}
use borrow.Author.Tests.{lt-ltb}
use Rattle.bands.proofs.RowTests.{first_above, later_above}
use Rattle.bands.proofs.rows.above_before.Goals as goal

pub returns-then-k-lt1 : goal.returns-then-k-lt1
returns-then-k-lt1 c = lt-ltb _ _ c.if-k-lt1.true ∙ first_above _ _ c.if-k-lt1.true

pub returns-else-k-lt1 : goal.returns-else-k-lt1
returns-else-k-lt1 c = later_above _ _ c.if-k-lt1.false refl c.at.ensures c.at-else-k-lt1.ensures (search rules)
