-- `script::word::pack_node` meets its contract: a constant is its bits, any other node its kind over its fields. Assumes nothing.
use mathlib.Core.Path.{ap, ◌∙◌}
use mir.Facts.{to_z-of_z}
use Rattle.script.specs.Bytes.{bits32}
use Rattle.script.proofs.WordLaws.{holds_constant, holds_step}
use Rattle.script.proofs.word.pack_node.Goals as goal

pub returns-then-k-eq0 : goal.returns-then-k-eq0
returns-then-k-eq0 c =
    let f = c.ranges.v in
    holds_constant f.sfits (c.bits.ensures ∙ ap bits32 (to_z-of_z f)) c.if-k-eq0.true

pub returns : goal.returns
returns c =
    let f = c.ranges in
    holds_step c.word.ensures f.a.fits f.b.fits f.c.fits c.if-k-eq0.false
