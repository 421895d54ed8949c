-- `script::word::word` meets its contract: the code is the definition. Assumes nothing.
use mathlib.Core.Path.{refl}
use Rattle.script.specs.Words.{word}
use Rattle.script.proofs.word.word.Goals as goal

pub returns : goal.returns
unfolding word
returns c = refl
