-- `emission::emit::finish_file` meets its contract: each branch knows whether the output is long enough, and head, inputs and nodes are put
-- one behind the other. Assumes nothing.
use Prim.Native.Nat.{◌≤◌}
use native.Mathlib.Omega.{arith}
use lib.ListN.{length}
use Rattle.script.specs.File.{node_offset, file_length}
use Rattle.script.specs.Columns.{inputs_in}
use Rattle.residual.specs.Cells.{code_at}
use Rattle.emission.proofs.Finishing.{fits_small, top_within, finish_written, finish_short, put_written, nodes_room}
use Rattle.emission.proofs.emit.finish_file.Goals as goal

pub returns-then-out-file_size : goal.returns-then-out-file_size
returns-then-out-file_size c =
    λ x k i.
    rw c.at.ensures
    (finish_short x (inputs_in c.args.inputs.now) c.args.count i (code_at c.args.codes.now c.args.p) c.requires.0 k c.requires.1
    (omega (arith, c.if-out-file_size.true, c.file_size.ensures)))

pub emit_root-requires : goal.emit_root-requires
unfolding node_offset
emit_root-requires c =
    let d = code_at c.args.codes.now c.args.p in
    (omega (arith, c.ranges.count, c.node_offset.ensures), top_within d c.requires.0 (fits_small d c.requires.0 c.requires.1))

pub returns : goal.returns
returns c =
    let d = code_at c.args.codes.now c.args.p in
    let g = inputs_in c.args.inputs.now in
    let room : file_length 0 c.args.count c.args.nodes ≤ length c.args.out.now = omega (arith, c.if-out-file_size.false, c.file_size.ensures) in
    λ x k f.
    finish_written x g c.args.count f d c.requires.0 k c.requires.1 room
    (put_written x g c.args.count f d c.requires.0 c.head_at.ensures c.inputs_at.ensures c.node_offset.ensures (c.emit_root.ensures.put (nodes_room x g c.args.count f d c.requires.0 room c.head_at.ensures c.inputs_at.ensures c.node_offset.ensures c.emit_root.ensures.number)))
