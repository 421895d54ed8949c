-- `calls::before::call_refusal` meets its contract: the static inputs are what the settings are counted by. Assumes nothing.
use Rattle.lambdamix.specs.Specializing.{call_refusal}
use Rattle.calls.proofs.before.call_refusal.Goals as goal

pub returns : goal.returns
unfolding call_refusal
returns c = λ s zs i l. rw (i, ← c.static_inputs.ensures) (c.given_refusal.ensures zs l)
