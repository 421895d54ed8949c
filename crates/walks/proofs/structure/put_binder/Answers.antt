-- `walks::structure::put_binder` meets its contract: a binder's name stands after those around it. Assumes nothing.
use mathlib.Core.Path.{sym, ◌∙◌}
use native.Mathlib.Omega.{arith}
use Rattle.walks.proofs.Scopes.{entered_binder, entered_other}
use Rattle.walks.proofs.structure.put_binder.Goals as goal

pub returns-then-is_binder : goal.returns-then-is_binder
returns-then-is_binder c = entered_binder _ _ _ (sym c.is_binder.ensures ∙ c.if-is_binder.true) (omega (arith, c.requires)) (omega arith) (omega arith)

pub returns : goal.returns
returns c = entered_other _ _ _ (sym c.is_binder.ensures ∙ c.if-is_binder.false)
