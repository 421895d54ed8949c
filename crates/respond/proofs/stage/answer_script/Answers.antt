-- `respond::stage::answer_script` meets its contract: by the maker's reply. Assumes nothing.
use mathlib.Core.Path.{refl}
use Rattle.lambdamix.specs.Limits.{max_bytes}
use Rattle.respond.proofs.Answering.{answered_unmade, answered_made}
use Rattle.respond.proofs.stage.answer_script.Goals as goal

pub returns-in-Err : goal.returns-in-Err
unfolding max_bytes
returns-in-Err c = answered_unmade c.make_given.ensures refl c.in-Err.is c.print_unmade.ensures

pub returns-in-Ok : goal.returns-in-Ok
unfolding max_bytes
returns-in-Ok c = answered_made c.make_given.ensures refl c.in-Ok.is c.print_made.ensures
