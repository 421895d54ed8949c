-- What the checker accepts, in the words of the published rules. Assumes nothing.
use Prim.Native.Nat.{ℕ}
use mathlib.Core.Path.{◌≡◌}
use mathlib.Core.Option.{none}
use mathlib.Core.Logic.{◌↔◌}
use Rattle.lambdamix.specs.Script.{root}
use Rattle.lambdamix.specs.Term.{tree}
use Rattle.lambdamix.specs.Types.{D}
use Rattle.lambdamix.specs.Typing.{◌∣◌⊢◌∶◌, input_context}
use Rattle.lambdamix.specs.Refusal.{or_else}
use Rattle.lambdamix.proofs.Checking.{checker_accepts}
use Rattle.script.specs.Tables.{Tables, tables_script, tables_refusal}
use Rattle.script.proofs.RefusalLaws.{neither}
use Rattle.annotation.specs.Checks.{check_refusal}

-- `check` accepts counts and tables exactly when none of 1 to 8 holds of them and the rules of Figure 4, with the types that the
-- script lists, make the root dynamic.
pub check_accepts :
    (t i n : ℕ) (x : Tables) →
    (check_refusal t i n x ≡ none)
    ↔ ((tables_refusal t i n x ≡ none)
    × (tables_script t i n x ∣ input_context (tables_script t i n x) ⊢ tree (tables_script t i n x) (root (tables_script t i n x)) ∶ D))
unfolding check_refusal or_else
check_accepts t i n x = (
  λ e. let (a, b) = neither _ _ e in (a, (checker_accepts (tables_script t i n x)).0 b),
  λ p. rw p.0 ((checker_accepts (tables_script t i n x)).1 p.1),
)
