-- `tables::content::field_right` meets its contract: each arm is the definition's test for that use. Assumes nothing.
use Rattle.script.specs.Refusals.{field_right}
use Rattle.tables.proofs.content.field_right.Goals as goal

pub returns-in-Nothing : goal.returns-in-Nothing
unfolding field_right
returns-in-Nothing c = rw c.in-Nothing.is

pub returns-in-Name : goal.returns-in-Name
unfolding field_right
returns-in-Name c = rw c.in-Name.is

pub returns-in-Binder : goal.returns-in-Binder
unfolding field_right
returns-in-Binder c = rw c.in-Binder.is

pub returns-in-Child : goal.returns-in-Child
unfolding field_right
returns-in-Child c = rw c.in-Child.is

pub returns-in-ParameterType : goal.returns-in-ParameterType
unfolding field_right
returns-in-ParameterType c = rw c.in-ParameterType.is

pub returns-in-Operation : goal.returns-in-Operation
unfolding field_right
returns-in-Operation c = rw c.in-Operation.is
