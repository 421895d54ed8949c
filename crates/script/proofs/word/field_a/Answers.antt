-- `script::word::field_a` meets its contract: the code is the definition. Assumes nothing.
use mathlib.Core.Path.{refl}
use Rattle.script.specs.Words.{word_a}
use Rattle.script.proofs.word.field_a.Goals as goal

pub returns : goal.returns
unfolding word_a
returns c = refl
