-- `layout::walk::whole` meets its contract. Assumes nothing.
use Rattle.text.proofs.Writing.{join}
use Rattle.layout.proofs.walk.whole.Goals as goal

pub returns : goal.returns
returns c =
    join (rw c.root.ensures at c.node-next.ensures) c.letter_at.ensures
