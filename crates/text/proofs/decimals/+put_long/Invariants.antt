-- `text::decimals::put_long` ends: the number falls to its tenth.
use Rattle.text.proofs.decimals.+put_long.Given as goal

abbrev pub decreases-put_long : goal.decreases-put_long
decreases-put_long l = l.x
