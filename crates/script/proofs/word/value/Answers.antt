-- `script::word::value` meets its contract: the low 32 bits, as a signed number. Assumes nothing.
use borrow.Author.Rules.{rules}
use Rattle.script.specs.Words.{word_value}
use Rattle.script.proofs.word.value.Goals as goal

pub returns : goal.returns
unfolding word_value
returns c = search rules
