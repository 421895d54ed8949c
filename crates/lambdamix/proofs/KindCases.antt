-- The thirteen kinds as cases: a proof about a kind of the table has one clause for each of its rows. Assumes nothing.
use Prim.Native.Nat.{ℕ, zero, suc, ◌<◌}
use native.Mathlib.Omega.{arith}

-- a number that is the kind of a row, by the row's step
pub data KindOf : ℕ → Type 0 where
  constant_kind : KindOf 0
  variable_kind : KindOf 1
  lift_kind : KindOf 2
  function_kind : KindOf 3
  application_kind : KindOf 4
  fix_kind : KindOf 5
  conditional_kind : KindOf 6
  operation_kind : KindOf 7
  dynamic_function_kind : KindOf 8
  dynamic_application_kind : KindOf 9
  dynamic_fix_kind : KindOf 10
  dynamic_if_kind : KindOf 11
  dynamic_operation_kind : KindOf 12

-- Every number below the count of rows is the kind of one.
pub kind_of : (k : ℕ) → k < 13 → KindOf k
kind_of zero h = constant_kind
kind_of (suc zero) h = variable_kind
kind_of (suc (suc zero)) h = lift_kind
kind_of (suc (suc (suc zero))) h = function_kind
kind_of (suc (suc (suc (suc zero)))) h = application_kind
kind_of (suc (suc (suc (suc (suc zero))))) h = fix_kind
kind_of (suc (suc (suc (suc (suc (suc zero)))))) h = conditional_kind
kind_of (suc (suc (suc (suc (suc (suc (suc zero))))))) h = operation_kind
kind_of (suc (suc (suc (suc (suc (suc (suc (suc zero)))))))) h = dynamic_function_kind
kind_of (suc (suc (suc (suc (suc (suc (suc (suc (suc zero))))))))) h = dynamic_application_kind
kind_of (suc (suc (suc (suc (suc (suc (suc (suc (suc (suc zero)))))))))) h = dynamic_fix_kind
kind_of (suc (suc (suc (suc (suc (suc (suc (suc (suc (suc (suc zero))))))))))) h = dynamic_if_kind
kind_of (suc (suc (suc (suc (suc (suc (suc (suc (suc (suc (suc (suc zero)))))))))))) h = dynamic_operation_kind
kind_of (suc (suc (suc (suc (suc (suc (suc (suc (suc (suc (suc (suc (suc k))))))))))))) h = let z : ⊥ = omega arith in absurd z
