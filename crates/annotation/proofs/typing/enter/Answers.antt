-- `annotation::typing::enter` meets its contract: a binder goes on top, any other field is passed over. Assumes nothing.
use Rattle.annotation.proofs.Recursion.{enter_binder, pass_over}
use Rattle.annotation.proofs.typing.enter.Goals as goal

pub returns-then-is_binder : goal.returns-then-is_binder
returns-then-is_binder c = search enter_binder

pub returns-else-is_binder : goal.returns-else-is_binder
returns-else-is_binder c = search pass_over
