-- `script::word::kind` meets its contract: the code is the definition. Assumes nothing.
use mathlib.Core.Path.{refl}
use Rattle.script.specs.Words.{word_kind}
use Rattle.script.proofs.word.kind.Goals as goal

pub returns : goal.returns
unfolding word_kind
returns c = refl
