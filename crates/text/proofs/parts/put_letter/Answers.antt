-- `text::parts::put_letter` meets its contract. Assumes nothing.
use Rattle.text.proofs.Writing.{put_none, put_last}
use Rattle.text.proofs.parts.put_letter.Goals as goal

pub returns : goal.returns
returns c = put_last c.args.letter put_none c.put.ensures
