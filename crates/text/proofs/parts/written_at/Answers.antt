-- `text::parts::written_at` meets its contract: what the closure puts at the front of what remains from a place on stands at that place. Assumes nothing.
use mathlib.Core.Path.{refl}
use native.Mathlib.Omega.{arith}
use Rattle.text.proofs.Writing.{placed}
use Rattle.text.proofs.parts.written_at.Goals as goal

pub returns : goal.returns
returns g c =
    λ text h.
    placed {n = c.write-n.result} (omega arith)
    (h _ _ c.write-n.result (record { shown = _; shows = refl; left = _; met = c.write-n.ensures; leaves = refl }))
    c.saturating_add.ensures
