-- `file::writer::node_inside` meets its contract: part after part. Assumes nothing.
use mathlib.Core.Path.{refl}
use mathlib.Core.List.{[], ◌∷◌}
use native.Mathlib.Omega.{arith}
use Rattle.lambdamix.specs.Text.{ascii}
use Rattle.script.specs.Bytes.{bytes16}
use Rattle.file.specs.Written.{node_parts}
use Rattle.file.proofs.WritingLaws.{put_places, put_both}
use Rattle.file.proofs.writer.node_inside.Goals as goal

pub returns : goal.returns
unfolding node_parts ascii bytes16
returns c =
    put_both (put_places 78 (68 ∷ c.args.kind ∷ []) c.args.out.now c.args.at) refl (put_both c.word_inside.ensures (omega
    arith) (put_both c.word_inside-2.ensures (omega arith) (put_both c.word_inside-3.ensures (omega arith) c.value_inside.ensures)))
