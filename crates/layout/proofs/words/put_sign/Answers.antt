-- `layout::words::put_sign` meets its contract. Assumes nothing.
use native.Mathlib.Omega.{arith}
use Rattle.text.proofs.Writing.{at_front, join}
use Rattle.layout.proofs.words.put_sign.Goals as goal

pub returns : goal.returns
returns c =
    rw c.sign.ensures (join (at_front (omega (arith, c.put_letter-open.type_inv)) c.put_letter-open.ensures) c.letter_at.ensures)
