-- `tables::content::first_bad_node` meets its contract: the loop searches, and packs the nodes before j. Assumes nothing.
use Prim.Native.Nat.{ℕ, ◌+◌, ◌*◌, ◌<◌, ◌≤◌}
use mathlib.Core.Path.{◌≡◌, refl}
use native.Mathlib.Omega.{arith}
use lib.ListN.{length-set}
use mir.Syntax.{w16, w32, w64}
use mir.Val.{Fits}
use mir.Facts.{to_z-of_z}
use Rattle.lambdamix.specs.Limits.{max_nodes}
use Rattle.script.specs.Tables.{row_node}
use Rattle.script.specs.Verdicts.{found_at}
use Rattle.script.proofs.WordLaws.{holds_row, packed_more}
use Rattle.tables.proofs.ContentLaws.{node_told}
use Rattle.script.proofs.Searching.{search_goes_on, search_finds, search_ends}
use Rattle.tables.proofs.content.first_bad_node.Goals as goal

-- the number after a node's has 16 bits, and its place and those of its parts fit a word
record InWord (j : ℕ) : Type 0 where
  next : Fits w16 (j + 1)
  one : Fits w64 j
  two : Fits w64 (j * 2)
  four : Fits w64 (j * 4)
  eight : Fits w64 (j * 8)

in-word : {j n : ℕ} → j < n → n ≤ max_nodes → InWord j
unfolding max_nodes
in-word h k = omega arith

pub loop-j-preserved : goal.loop-j-preserved
unfolding row_node
loop-j-preserved c =
    let at_value = c.value-1 in
    let at-loop = c.loop-j in
    let at-loop-test = c.loop-j-test in
    let at-pack-node = c.pack_node in
    let at_pre = c.requires in
    let v = to_z-of_z {w = w32} (record { sfits = at_value.given }) in (
      search_goes_on _ at-loop.invariant.0 at-loop-test.true (node_told
          _ _ _ _ c.node_right.ensures refl refl refl refl v c.if-not-node_right.false),
      (
        packed_more at-loop.invariant.1.0 (holds_row
            at-pack-node.ensures refl refl refl refl v) (omega (arith, at-loop.invariant.1.1, at-loop-test.true, at_pre.nodes_le_max_nodes)),
        simp length-set
            at-loop.invariant.1.1,
      ),
    )

pub returns-then-not-node_right : goal.returns-then-not-node_right
unfolding found_at row_node
returns-then-not-node_right c =
    let at_value = c.value-1 in
    let at-loop = c.loop-j in
    let at-loop-test = c.loop-j-test in
    let v = to_z-of_z {w = w32} (record { sfits = at_value.given }) in record {
      found = search_finds _ at-loop.invariant.0 at-loop-test.true (node_told _
          _ _ _ c.node_right.ensures refl refl refl refl v c.if-not-node_right.true);
      packed = record {
        all = λ e. let z : ◌≡◌ {A = ℕ} 0 1 = cc in
            absurd (omega arith);
      };
    }

pub returns : goal.returns
unfolding found_at
returns c = record {
  found = search_ends _ c.loop-j.invariant.0 c.loop-j-test.false;
  packed = record { all = λ e. record { each = λ i l. c.loop-j.invariant.1.0.each i (omega (arith, c.loop-j-test.false)) } };
}
