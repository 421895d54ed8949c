-- `script::word::field_b` meets its contract: the code is the definition. Assumes nothing.
use mathlib.Core.Path.{refl}
use Rattle.script.specs.Words.{word_b}
use Rattle.script.proofs.word.field_b.Goals as goal

pub returns : goal.returns
unfolding word_b
returns c = refl
