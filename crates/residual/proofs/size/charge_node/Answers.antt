-- `residual::size::charge_node` meets its contract: each branch knows what gives out. Assumes nothing.
use Rattle.residual.specs.Cells.{room_of}
use Rattle.residual.proofs.CellLaws.{no_room, no_height, node_left}
use Rattle.residual.proofs.size.charge_node.Goals as goal
use Rattle.residual.proofs.size.charge_node.Goals.{then-room-lt2-via-then-room-lt2, then-room-lt2-via-else-room-lt2+then-height-eq0}

pub returns-then-room-lt2 : goal.returns-then-room-lt2
unfolding room_of
returns-then-room-lt2 c =
    elim c.then-room-lt2.branch [
      | then-room-lt2-via-then-room-lt2 w ↦ no_room c.args.room c.args.height w.if-room-lt2.true
      | then-room-lt2-via-else-room-lt2+then-height-eq0 w ↦ no_height c.args.room c.args.height w.if-height-eq0.true
    ]

pub returns : goal.returns
returns c = node_left c.args.room c.args.height c.if-room-lt2.false c.if-height-eq0.false
