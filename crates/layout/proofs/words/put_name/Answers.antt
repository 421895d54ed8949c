-- `layout::words::put_name` meets its contract. Assumes nothing.
use borrow.Author.Tests.{lt-ltb, le-ltb}
use Rattle.lambdamix.specs.Text.{ascii}
use Rattle.lambdamix.specs.Listing.{name_text, name_by}
use Rattle.layout.proofs.words.put_name.Goals as goal
use Rattle.layout.proofs.words.put_name.Goals.{then-x-inputs, else-x-inputs}

pub returns : goal.returns
unfolding name_text name_by ascii
returns c =
    elim c.if-x-inputs.branch [
      | then-x-inputs w ↦ rw (lt-ltb c.args.x.0 c.args.inputs w.if-x-inputs.true) (rw w.letter-is at c.put_prefixed.ensures.put)
      | else-x-inputs w ↦ rw (le-ltb c.args.x.0 c.args.inputs w.if-x-inputs.false) (rw w.letter-is at c.put_prefixed.ensures.put)
    ]
