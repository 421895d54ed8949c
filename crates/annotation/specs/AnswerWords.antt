-- A node's answer in one number, and what it stands for of what `check` gives. Assumes nothing.
use Rattle.std.specs.Prelude.{ℕ, ◌+◌, ◌-◌, ◌*◌, ◌/◌, ◌%◌, ◌≤◌, ◌<◌, Bool, true, false, ◌&&◌, List, ◌≡◌, eqb, leb, ltb, get_or}
use Rattle.std.proofs.Math.Option.{Option, none, some}
use Rattle.lambdamix.specs.Script.{Script}
use Rattle.lambdamix.specs.Types.{Ty, type_of, type_count}
use Rattle.lambdamix.specs.Refusal.{Refusal}
use Rattle.lambdamix.specs.Checker.{Checked, typed, faulty}
use Rattle.script.specs.declared.Counts.{Counts}
use Rattle.script.specs.Tables.{Tables, tables_refusal}

-- none of refusals 1 to 8 holds
abbrev pub Passes : Counts → Tables → Type 0
Passes n x = tables_refusal n.types n.inputs n.nodes x ≡ none

abbrev pub pick : {A : Type 0} → Bool → A → A → A
pick true a b = a
pick false a b = b

-- numbers of 16 bits are below this one; two of them make a word of 32 bits
abbrev pub limit16 : ℕ
limit16 = 65536

abbrev pub pair_word : ℕ → ℕ → ℕ
pair_word a b = limit16 * a + b

abbrev pub high_half : ℕ → ℕ
high_half w = w / limit16

abbrev pub low_half : ℕ → ℕ
low_half w = w % limit16

-- the numbers of refusals are below this one
abbrev pub fault_limit : ℕ
fault_limit = 16

-- the answer of a fault, 9 or 10, with its node
abbrev pub fault_answer : ℕ → ℕ → ℕ
fault_answer k i = fault_limit * i + k

abbrev pub refusal_in : ℕ → Refusal
refusal_in r = record { number = r % fault_limit; place = r / fault_limit }

-- the answers of types begin here, above those of all faults
abbrev pub type_base : ℕ
type_base = fault_limit * limit16

abbrev pub type_answer : ℕ → ℕ
type_answer t = type_base + t

abbrev pub type_in : ℕ → ℕ
type_in r = low_half r

-- what a number stands for: a fault or a type
unfoldable pub meaning : Script → ℕ → Checked Ty
meaning s r = pick (ltb r type_base) (faulty (refusal_in r)) (typed (type_of s (type_in r)))

-- a type's number is one of the script's
pub record AnswersFor (s : Script) (r : ℕ) (x : Checked Ty) : Type 0 where
  pub said : meaning s r ≡ x
  pub known : type_base ≤ r → type_in r < type_count s

-- a type, or a fault 9, by a test
abbrev pub given_by : Bool → ℕ → ℕ → ℕ
given_by true t i = type_answer t
given_by false t i = fault_answer 9 i

-- the parts of the function type f, in the words of the listed types
abbrev pub parameter_of : List ℕ → ℕ → ℕ
parameter_of types f = high_half (get_or types (f - 2) 0)

abbrev pub result_of : List ℕ → ℕ → ℕ
result_of types f = low_half (get_or types (f - 2) 0)

-- (Apply): a function from t to u and an argument t give u
abbrev pub apply_answer : List ℕ → ℕ → ℕ → ℕ → ℕ
apply_answer types i f t = given_by (leb 2 f && eqb (parameter_of types f) t) (result_of types f) i

-- (Fix): a function from a function type to that same type gives it
abbrev pub fix_answer : List ℕ → ℕ → ℕ → ℕ
fix_answer types i f =
    given_by (leb 2 f && (leb 2 (parameter_of types f) && eqb (parameter_of types f) (result_of types f))) (parameter_of types f) i

-- "9 and 10: lowest node of either": the first where both stand for types
unfoldable pub lowest : ℕ → ℕ → ℕ
lowest e f = pick (leb (e / fault_limit) (f / fault_limit)) e f

-- "The root must be D."
unfoldable pub root_answer : ℕ → ℕ → Option Refusal
root_answer i r =
    pick (ltb r type_base) (some (refusal_in r)) (pick (eqb (type_in r) 1) none (some (record { number = 11; place = i })))
