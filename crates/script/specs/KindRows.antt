-- The row of a kind as the code hands it on: the uses of the fields a, b and c; and the kinds of the steps. Assumes nothing.
use Rattle.std.specs.Prelude.{ℕ}
use Rattle.lambdamix.specs.declared.Step.{Step}
use Rattle.lambdamix.specs.declared.Step.TheVariants.{Constant, Variable, Lift, Function, Application, Fix, Conditional, Operation}
use Rattle.lambdamix.specs.declared.Step.TheVariants.{DynamicFunction, DynamicApplication, DynamicFix, DynamicIf, DynamicOperation}
use Rattle.script.specs.declared.Row.{Row}
use Rattle.script.specs.Kinds.{use_of}

unfoldable pub row_at : ℕ → Row
row_at k = record { 0 = use_of k 0; 1 = use_of k 1; 2 = use_of k 2 }

-- the kinds 0 to 12 of the steps
abbrev pub kind_number : Step → ℕ
kind_number Constant = 0
kind_number Variable = 1
kind_number Lift = 2
kind_number Function = 3
kind_number Application = 4
kind_number Fix = 5
kind_number Conditional = 6
kind_number Operation = 7
kind_number DynamicFunction = 8
kind_number DynamicApplication = 9
kind_number DynamicFix = 10
kind_number DynamicIf = 11
kind_number DynamicOperation = 12
