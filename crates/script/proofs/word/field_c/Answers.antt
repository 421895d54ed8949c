-- `script::word::field_c` meets its contract: the code is the definition. Assumes nothing.
use mathlib.Core.Path.{refl}
use Rattle.script.specs.Words.{word_c}
use Rattle.script.proofs.word.field_c.Goals as goal

pub returns : goal.returns
unfolding word_c
returns c = refl
