-- The rules on numbers of types stand for the rules on types, for each kind with children: a node's answer from the answers at its
-- children. Assumes nothing.
use Prim.Native.Nat.{ℕ, zero, suc, ◌+◌, ◌-◌, ◌≤◌, ◌<◌}
use mathlib.Core.Path.{◌≡◌, refl}
use mathlib.Core.Logic.{⊎_elim}
use mathlib.Core.Bool.{Bool, true, false, ◌&&◌, and-true}
use mathlib.Core.List.{List, [], ◌∷◌}
use native.Mathlib.Omega.{arith}
use lib.ListN.{length, get_or}
use lib.Dec.{leb, ltb, eqb}
use borrow.Author.Tests.{leb-true, ltb-true, ltb-false}
use Rattle.lambdamix.specs.Limits.{max_types, max_nodes}
use Rattle.lambdamix.specs.Script.{Script, Node, Row, rows, blank_row, node_count}
use Rattle.lambdamix.specs.Term.{Term, Terms, arity, child_at, build}
use Rattle.lambdamix.specs.Types.{Ty, D, type_of, type_count}
use Rattle.lambdamix.specs.Typing.{Context, bind}
use Rattle.lambdamix.specs.Checker.{typed, both_typed, gather, rule, own, provided, apply_rule, fix_rule, abstr_by, abstr_rule, abstr_dyn_rule, all_dynamic, dyn_rule}
use Rattle.lambdamix.specs.Checker.{check, check_all}
use Rattle.lambdamix.proofs.KindCases.{KindOf, kind_of, constant_kind, variable_kind, lift_kind, function_kind, application_kind, fix_kind, conditional_kind}
use Rattle.lambdamix.proofs.KindCases.{operation_kind, dynamic_function_kind, dynamic_application_kind, dynamic_fix_kind, dynamic_if_kind}
use Rattle.lambdamix.proofs.KindCases.{dynamic_operation_kind}
use Rattle.lambdamix.proofs.Tests.{holds_or_fails}
use Rattle.annotation.specs.AnswerWords.{limit16, pair_word, type_base, type_answer, type_in, AnswersFor, given_by, parameter_of, result_of, apply_answer}
use Rattle.annotation.specs.AnswerWords.{fix_answer, lowest}
use Rattle.walks.proofs.TreeForms.{All}
use Rattle.annotation.specs.Walks.{Lent, Listing, listed_at, not_listed, bound, FieldsAnswer, none_left, child_then, other_then, places, inside, Ruled}
use Rattle.script.proofs.Sound.{Sound, sound}
use Rattle.annotation.proofs.TypeNumbers.{pair, parts, type_zero, type_one, same_dynamic, function_type, listed_pair, unlisted_pair, apply_numbers}
use Rattle.annotation.proofs.TypeNumbers.{fix_numbers, lift_numbers, if_numbers, op_numbers, dynamic_function_lem}
use Rattle.annotation.proofs.Contexts.{type_answers, fault_answers, given_answers, bound_answers}
use Rattle.annotation.proofs.Faults.{TellsFault, answer_fault, fault_alone, fault_gathered, fault_then_type, type_then_fault, fault_of_both}
use Rattle.annotation.proofs.Faults.{both_types, fault_before_rule, typed_answer}

-- ---- the rules on numbers

module _ {s : Script} {words ts : List ℕ} (lent : Lent s words ts) (i : ℕ) (h : i < node_count s) where
  ok : Sound s
  ok = sound s lent.passes

  small : i < limit16
  unfolding max_nodes
  small = omega (arith, ok.within.nodes)

  -- a test on a function type's two numbers, and one of them, read from its word
  word_answers :
      (test : ℕ → ℕ → Bool) (out : ℕ → ℕ → ℕ) →
      ((j : ℕ) → j < length s.types → out (pair s j).parameter (pair s j).result < 2 + j) → (f : ℕ) → f < type_count s →
      AnswersFor s
      (given_by (leb 2 f && test (parameter_of ts f) (result_of ts f))
      (out (parameter_of ts f) (result_of ts f)) i)
      (own i
      (provided (leb 2 f && test (pair s (f - 2)).parameter (pair s (f - 2)).result)
      (type_of s (out (pair s (f - 2)).parameter (pair s (f - 2)).result))))
  unfolding type_count own provided
  word_answers test out known f m = by_test (leb 2 f) refl
    where
      by_test :
          (b : Bool) → leb 2 f ≡ b →
          AnswersFor s
          (given_by (b && test (parameter_of ts f) (result_of ts f))
          (out (parameter_of ts f) (result_of ts f)) i)
          (own i
          (provided (b && test (pair s (f - 2)).parameter (pair s (f - 2)).result)
          (type_of s (out (pair s (f - 2)).parameter (pair s (f - 2)).result))))
      by_test true e =
          let l : 2 ≤ f = leb-true 2 f e in
          let k = known (f - 2) (omega arith) in
          let w = lent.types.each (f - 2) (omega arith) in
          rw (w.high, w.low)
          (given_answers s ok (test (pair s (f - 2)).parameter (pair s (f - 2)).result) _ i small (λ _. omega arith))
      by_test false e = fault_answers s 9 i (omega arith) small

  apply_answers :
      (f t : ℕ) → f < type_count s → t < type_count s →
      AnswersFor s (apply_answer ts i f t) (own i (apply_rule (type_of s f) (type_of s t)))
  apply_answers f t m l =
      rw (apply_numbers s ok f t m l) (word_answers (λ p r. eqb p t) (λ p r. r) (λ j k. (parts s ok j k).1) f m)

  fix_answers :
      (f : ℕ) → f < type_count s →
      AnswersFor s (fix_answer ts i f) (own i (fix_rule (type_of s f)))
  fix_answers f m =
      rw (fix_numbers s ok f m) (word_answers (λ p r. leb 2 p && eqb p r) (λ p r. p) (λ j k. (parts s ok j k).0) f m)

  function_answers :
      {r t u : ℕ} → Listing ts (pair_word t u) i r → t < type_count s → u < type_count s →
      AnswersFor s r (own i (abstr_rule s (type_of s t) (type_of s u)))
  unfolding abstr_rule abstr_by own type_count max_types
  function_answers {t} {u} (listed_at j l e) m k =
      let few = ok.within.types in
      ⊎_elim
      (λ b.
      let c : j < length s.types = ltb-true _ _ b in
      let w = lent.types.each j c in
      let v = w.high in
      let x = w.low in
      let p : (pair s j).parameter ≡ t = omega arith in
      let q : (pair s j).result ≡ u = omega arith in
      rw (← p, ← q, listed_pair s ok j c, ← function_type s ok j c) (type_answers s ok (2 + j) (omega arith)))
      (λ b. let w = lent.types.past j (ltb-false _ _ b) l in let z : ⊥ = omega arith in absurd z)
      (holds_or_fails (ltb j (length s.types)))
  function_answers {t} {u} (not_listed other) m k =
      let few = ok.within.types in
      rw (unlisted_pair s ok t u m k (λ j b p q. let w = lent.types.each j b in let v = w.high in let x = w.low in other j (omega arith) (omega arith)))
      (fault_answers s 10 i (omega arith) small)

-- ---- the fault among the answers at a node's fields, by those that are children

-- the answers at two fields that are no children
neutral : type_base ≤ lowest (type_answer 1) (type_answer 1)
unfolding lowest
neutral = omega arith

module _ {s : Script} {Γ : Context} where
  no_fault :
      {e f g : ℕ} {ts : Terms} → FieldsAnswer s Γ (false ∷ false ∷ false ∷ []) (e ∷ f ∷ g ∷ []) ts → lowest e (lowest f g) < type_base → ⊥
  unfolding lowest
  no_fault (other_then (other_then (other_then none_left))) l = omega arith

  -- the fault of the children as a static step takes them, and as a dynamic one does
  one_child_fault :
      {e f g : ℕ} {ts : Terms} → FieldsAnswer s Γ (true ∷ false ∷ false ∷ []) (e ∷ f ∷ g ∷ []) ts →
      TellsFault (lowest e (lowest f g)) (check s Γ (child_at ts 0)) × TellsFault (lowest e (lowest f g)) (check_all s Γ ts)
  unfolding child_at check_all
  one_child_fault (child_then p (other_then (other_then none_left))) =
      let q = fault_then_type (answer_fault p) neutral in
      (q, fault_gathered (fault_alone q _))

  last_child_fault :
      {e f g : ℕ} {ts : Terms} → FieldsAnswer s Γ (false ∷ false ∷ true ∷ []) (e ∷ f ∷ g ∷ []) ts →
      TellsFault (lowest e (lowest f g)) (check s Γ (child_at ts 0))
  unfolding child_at
  last_child_fault (other_then (other_then (child_then p none_left))) = type_then_fault (type_then_fault (answer_fault p) (omega arith)) (omega arith)

  two_children_fault :
      {e f g : ℕ} {ts : Terms} → FieldsAnswer s Γ (true ∷ true ∷ false ∷ []) (e ∷ f ∷ g ∷ []) ts →
      TellsFault (lowest e (lowest f g)) (both_typed (check s Γ (child_at ts 0)) (check s Γ (child_at ts 1)))
      × TellsFault (lowest e (lowest f g)) (check_all s Γ ts)
  unfolding child_at check_all
  two_children_fault (child_then p (child_then q (other_then none_left))) =
      let r = fault_then_type {n = type_answer 1} (answer_fault q) (omega arith) in
      (fault_of_both (answer_fault p) r, fault_gathered (fault_of_both (answer_fault p) (fault_gathered (fault_alone r _))))

  three_children_fault :
      {e f g : ℕ} {ts : Terms} → FieldsAnswer s Γ (true ∷ true ∷ true ∷ []) (e ∷ f ∷ g ∷ []) ts →
      TellsFault (lowest e (lowest f g)) (both_typed (check s Γ (child_at ts 0)) (both_typed (check s Γ (child_at ts 1)) (check s Γ (child_at ts 2))))
      × TellsFault (lowest e (lowest f g)) (check_all s Γ ts)
  unfolding child_at check_all
  three_children_fault (child_then p (child_then q (child_then r none_left))) = (
    fault_of_both (answer_fault p) (fault_of_both (answer_fault q) (answer_fault r)),
    fault_gathered (fault_of_both (answer_fault p) (fault_gathered (fault_of_both (answer_fault q) (fault_gathered (fault_alone (answer_fault r) _))))),
  )

late_body_fault :
    {s : Script} {Γ : Context} {y e f g : ℕ} {ts : Terms} → FieldsAnswer s (bind y (type_of s 1) Γ) (false ∷ false ∷ true ∷ []) (e ∷ f ∷ g ∷ []) ts →
    TellsFault (lowest e (lowest f g)) (check s (bind y D Γ) (child_at ts 0))
late_body_fault {s} st = rw (← type_one s) (last_child_fault st)

-- a fault goes before the rule of each row
module _ (s : Script) (Γ : Context) (i : ℕ) (nd : Node) (e f g : ℕ) (ts : Terms) (l : lowest e (lowest f g) < type_base) where
  abbrev FaultFirst : Row → Type 0
  FaultFirst r =
      FieldsAnswer s (inside s Γ r.uses nd) (places r.uses) (e ∷ f ∷ g ∷ []) ts →
      AnswersFor s (lowest e (lowest f g)) (check s Γ (build r.step i nd ts))

  fault_first : {k : ℕ} → KindOf k → FaultFirst (get_or rows k blank_row)
  unfolding rows build check arity
  fault_first constant_kind st = absurd (no_fault st l)
  fault_first variable_kind st = absurd (no_fault st l)
  fault_first lift_kind st = fault_before_rule s i _ (one_child_fault st).0 l
  fault_first function_kind st = fault_before_rule s i _ (last_child_fault st) l
  fault_first application_kind st = fault_before_rule s i _ (two_children_fault st).0 l
  fault_first fix_kind st = fault_before_rule s i _ (one_child_fault st).0 l
  fault_first conditional_kind st = fault_before_rule s i _ (three_children_fault st).0 l
  fault_first operation_kind st = fault_before_rule s i _ (two_children_fault st).0 l
  fault_first dynamic_function_kind st = fault_before_rule s i _ (late_body_fault st) l
  fault_first dynamic_application_kind st = fault_before_rule s i _ (two_children_fault st).1 l
  fault_first dynamic_fix_kind st = fault_before_rule s i _ (one_child_fault st).1 l
  fault_first dynamic_if_kind st = fault_before_rule s i _ (three_children_fault st).1 l
  fault_first dynamic_operation_kind st = fault_before_rule s i _ (two_children_fault st).1 l

-- ---- the types of a node's children

-- a child has the type of its answer
abbrev Typed : Script → Context → ℕ → Term → Type 0
Typed s Γ e t = (check s Γ t ≡ typed (type_of s (type_in e))) × (type_in e < type_count s)

module _ {s : Script} {Γ : Context} where
  one_typed :
      {e f g : ℕ} {ts : Terms} → FieldsAnswer s Γ (true ∷ false ∷ false ∷ []) (e ∷ f ∷ g ∷ []) ts → type_base ≤ e → Typed s Γ e (child_at ts 0)
  unfolding child_at
  one_typed (child_then p _) l = (typed_answer p l, p.known l)

  last_typed :
      {e f g : ℕ} {ts : Terms} → FieldsAnswer s Γ (false ∷ false ∷ true ∷ []) (e ∷ f ∷ g ∷ []) ts → type_base ≤ g → Typed s Γ g (child_at ts 0)
  unfolding child_at
  last_typed (other_then (other_then (child_then p _))) l = (typed_answer p l, p.known l)

  two_typed :
      {e f g : ℕ} {ts : Terms} → FieldsAnswer s Γ (true ∷ true ∷ false ∷ []) (e ∷ f ∷ g ∷ []) ts → type_base ≤ e → type_base ≤ f →
      Typed s Γ e (child_at ts 0) × Typed s Γ f (child_at ts 1)
  unfolding child_at
  two_typed (child_then p (child_then q _)) l m = ((typed_answer p l, p.known l), (typed_answer q m, q.known m))

  three_typed :
      {e f g : ℕ} {ts : Terms} → FieldsAnswer s Γ (true ∷ true ∷ true ∷ []) (e ∷ f ∷ g ∷ []) ts → type_base ≤ e → type_base ≤ f → type_base ≤ g →
      Typed s Γ e (child_at ts 0) × Typed s Γ f (child_at ts 1) × Typed s Γ g (child_at ts 2)
  unfolding child_at
  three_typed (child_then p (child_then q (child_then r _))) l m n =
      ((typed_answer p l, p.known l), (typed_answer q m, q.known m), (typed_answer r n, r.known n))

-- a number is none of the j from l on
unfoldable pub NotAmong : ℕ → ℕ → ℕ → Type 0
NotAmong l zero k = Unit {0}
NotAmong l (suc j) k = NotAmong l j k × (k ≡ l + j → ⊥)

pub past_all : (l j k : ℕ) → l ≤ k → NotAmong l j k → l + j ≤ k
unfolding NotAmong
past_all l zero k m n = omega arith
past_all l (suc j) k m n = let p = past_all l j k m n.0 in omega (arith, n.1)

-- late kinds: all children D, however many
unfoldable count : List Bool → ℕ
count [] = 0
count (true ∷ bs) = suc (count bs)
count (false ∷ bs) = count bs

unfoldable all_d : List ℕ → Bool
all_d [] = true
all_d (e ∷ es) = eqb (type_in e) 1 && all_d es

module _ {s : Script} (ok : Sound s) {Γ : Context} where
  late_types :
      {bs : List Bool} {es : List ℕ} {ts : Terms} → FieldsAnswer s Γ bs es ts → All (λ e. type_base ≤ e) es →
      (us : List Ty) × (check_all s Γ ts ≡ typed us) × (all_dynamic (count bs) us ≡ all_d es)
  unfolding All check_all both_typed gather count all_d all_dynamic
  late_types none_left l = ([], refl, refl)
  late_types (child_then {e = e} p st) l =
      let (us, c, d) = late_types st l.1 in
      (type_of s (type_in e) ∷ us, rw (typed_answer p l.0, c), rw (same_dynamic s ok (type_in e) (p.known l.0), d))
  late_types (other_then st) l = late_types st l.1

abbrev late_answer : ℕ → ℕ → ℕ → ℕ → ℕ
late_answer i e f g = given_by (eqb (type_in e) 1 && (eqb (type_in f) 1 && eqb (type_in g) 1)) 1 i

module _ {s : Script} {words ls : List ℕ} (lent : Lent s words ls) (Γ : Context) {i : ℕ} (h : i < node_count s) where
  late_list :
      {a b c : Bool} {e f g : ℕ} {ts : Terms} → FieldsAnswer s Γ (a ∷ b ∷ c ∷ []) (e ∷ f ∷ g ∷ []) ts → type_base ≤ e → type_base ≤ f → type_base ≤ g →
      AnswersFor s (late_answer i e f g) (rule i (dyn_rule (count (a ∷ b ∷ c ∷ []))) (check_all s Γ ts))
  unfolding All rule dyn_rule all_d type_count
  late_list {e = e} {f} {g} st l m n =
      let (us, c, d) = late_types (ok lent i h) st (l, (m, (n, tt))) in
      let q = given_answers s (ok lent i h) (eqb (type_in e) 1 && (eqb (type_in f) 1 && eqb (type_in g) 1)) 1 i (small lent i h) (λ _. omega arith) in
      rw (c, d, and-true (eqb (type_in g) 1)) (rw (type_one s) at q)

  late_body :
      {y e f g : ℕ} {ts : Terms} → FieldsAnswer s (bind y (type_of s 1) Γ) (false ∷ false ∷ true ∷ []) (e ∷ f ∷ g ∷ []) ts → type_base ≤ g →
      AnswersFor s (late_answer i e f g) (rule i abstr_dyn_rule (check s (bind y D Γ) (child_at ts 0)))
  unfolding child_at rule type_count
  late_body {g = g} (other_then (other_then (child_then p none_left))) l =
      rw (← type_one s, typed_answer p l, dynamic_function_lem s (ok lent i h) (type_in g) (p.known l))
      (given_answers s (ok lent i h) _ 1 i (small lent i h) (λ _. omega arith))

  late_row :
      {k e f g : ℕ} (nd : Node) {ts : Terms} → KindOf k → 8 ≤ k →
      FieldsAnswer s (inside s Γ (get_or rows k blank_row).uses nd) (places (get_or rows k blank_row).uses) (e ∷ f ∷ g ∷ []) ts →
      type_base ≤ e → type_base ≤ f → type_base ≤ g → AnswersFor s (late_answer i e f g) (check s Γ (build (get_or rows k blank_row).step i nd ts))
  unfolding rows build check arity count
  late_row nd constant_kind q st l m n = absurd (omega arith)
  late_row nd variable_kind q st l m n = absurd (omega arith)
  late_row nd lift_kind q st l m n = absurd (omega arith)
  late_row nd function_kind q st l m n = absurd (omega arith)
  late_row nd application_kind q st l m n = absurd (omega arith)
  late_row nd fix_kind q st l m n = absurd (omega arith)
  late_row nd conditional_kind q st l m n = absurd (omega arith)
  late_row nd operation_kind q st l m n = absurd (omega arith)
  late_row nd dynamic_function_kind q st l m n = late_body st n
  late_row nd dynamic_application_kind q st l m n = late_list st l m n
  late_row nd dynamic_fix_kind q st l m n = late_list st l m n
  late_row nd dynamic_if_kind q st l m n = late_list st l m n
  late_row nd dynamic_operation_kind q st l m n = late_list st l m n

-- ---- what the rule of a node is told of the answers at its fields, and what it gives

three_types :
    {e f g n m : ℕ} → n ≡ lowest f g → m ≡ lowest e n → type_base ≤ m → (type_base ≤ e) × (type_base ≤ f) × (type_base ≤ g)
three_types {e} {f} {g} {n} w x l =
    let (a, b) = both_types e n (rw x at l) in
    let (c, d) = both_types f g (rw w at b) in
    (a, c, d)

module _ {ls stack : List ℕ} {d i k x p e f g j r : ℕ} (jk : j ≡ k) where
  pub constant_ruled : j ≡ 0 → r ≡ type_answer 0 → Ruled ls stack d i k x p e f g r
  unfolding rows build check type_count
  constant_ruled q y =
      rw (← jk, q, y)
      (record { reply = λ words s Γ nd ts lent h b few vis. rw (← type_zero s) (type_answers s (ok lent i h) 0 (omega arith)) })

  pub variable_ruled : {y : ℕ} → j ≡ 1 → y ≡ x → (d ≤ length stack → r ≡ bound stack y i d) → Ruled ls stack d i k x p e f g r
  unfolding rows build check
  variable_ruled q z y =
      rw (← jk, q)
      (record { reply = λ words s Γ nd ts lent h b few vis. rw (y few, z, vis.name) (bound_answers s (ok lent i h) i nd.a (small lent i h) b) })

module _ {ls stack : List ℕ} {d i k x p e f g n m : ℕ} (c : n ≡ lowest f g) (a : m ≡ lowest e n) where
  pub fault_ruled : m < type_base → Ruled ls stack d i k x p e f g m
  fault_ruled l =
      record { reply = λ words s Γ nd ts lent h b few vis. rw (a, c) (fault_first s Γ i nd e f g ts (rw (a, c) at l) (kind_of k vis.known) vis.fields) }

  module _ {t u v j r : ℕ} (jk : j ≡ k) (l : type_base ≤ m) (te : t ≡ type_in e) (uf : u ≡ type_in f) (vg : v ≡ type_in g) where
    pub lift_ruled : j ≡ 2 → r ≡ given_by (eqb t 0) 1 i → Ruled ls stack d i k x p e f g r
    unfolding rows build check rule type_count
    lift_ruled q y =
        let (le, lf, lg) = three_types c a l in
        rw (← jk, q, y, te)
        (record {
          reply = λ words s Γ nd ts lent h b few vis.
              let (z, kn) = one_typed vis.fields le in
              rw (z, lift_numbers s (ok lent i h) (type_in e) kn) (given_answers s (ok lent i h) _ 1 i (small lent i h) (λ _. omega arith));
        })

    pub function_ruled : j ≡ 3 → (max_types ≤ length ls → Listing ls (pair_word p v) i r) → Ruled ls stack d i k x p e f g r
    unfolding rows build check rule
    function_ruled q y =
        let (le, lf, lg) = three_types c a l in
        rw (← jk, q)
        (record {
          reply = λ words s Γ nd ts lent h b few vis.
              let (z, kn) = last_typed vis.fields lg in
              rw (z, ← vis.parameter) (function_answers lent i h {t = p} {u = type_in g} (rw vg at (y lent.types.room)) vis.listed kn);
        })

    pub apply_ruled : j ≡ 4 → r ≡ apply_answer ls i t u → Ruled ls stack d i k x p e f g r
    unfolding rows build check both_typed rule
    apply_ruled q y =
        let (le, lf, lg) = three_types c a l in
        rw (← jk, q, y, te, uf)
        (record {
          reply = λ words s Γ nd ts lent h b few vis.
              let ((z, kn), (o, km)) = two_typed vis.fields le lf in
              rw (z, o) (apply_answers lent i h (type_in e) (type_in f) kn km);
        })

    pub fix_ruled : j ≡ 5 → r ≡ fix_answer ls i t → Ruled ls stack d i k x p e f g r
    unfolding rows build check rule
    fix_ruled q y =
        let (le, lf, lg) = three_types c a l in
        rw (← jk, q, y, te)
        (record { reply = λ words s Γ nd ts lent h b few vis. let (z, kn) = one_typed vis.fields le in rw z (fix_answers lent i h (type_in e) kn) })

    pub if_ruled : {o : Bool} → j ≡ 6 → o ≡ (eqb t 0 && eqb u v) → r ≡ given_by o u i → Ruled ls stack d i k x p e f g r
    unfolding rows build check both_typed rule
    if_ruled q o y =
        let (le, lf, lg) = three_types c a l in
        rw (← jk, q, y, o, te, uf, vg)
        (record {
          reply = λ words s Γ nd ts lent h b few vis.
              let ((z, kz), (w, kw), (y, ky)) = three_typed vis.fields le lf lg in
              rw (z, w, y, if_numbers s (ok lent i h) (type_in e) (type_in f) (type_in g) kz kw ky)
              (given_answers s (ok lent i h) _ (type_in f) i (small lent i h) (λ _. kw));
        })

    pub operation_ruled : {o : Bool} → j ≡ 7 → o ≡ (eqb t 0 && eqb u 0) → r ≡ given_by o 0 i → Ruled ls stack d i k x p e f g r
    unfolding rows build check both_typed rule type_count
    operation_ruled q o y =
        let (le, lf, lg) = three_types c a l in
        rw (← jk, q, y, o, te, uf)
        (record {
          reply = λ words s Γ nd ts lent h b few vis.
              let ((z, kz), (w, kw)) = two_typed vis.fields le lf in
              rw (z, w, op_numbers s (ok lent i h) (type_in e) (type_in f) kz kw)
              (given_answers s (ok lent i h) _ 0 i (small lent i h) (λ _. omega arith));
        })

    pub late_ruled :
        {o : Bool} → 8 ≤ j → o ≡ (eqb t 1 && (eqb u 1 && eqb v 1)) → r ≡ given_by o 1 i → Ruled ls stack d i k x p e f g r
    late_ruled q o y =
        let (le, lf, lg) = three_types c a l in
        rw (y, o, te, uf, vg)
        (record { reply = λ words s Γ nd ts lent h b few vis. late_row lent Γ h nd (kind_of k vis.known) (rw jk at q) vis.fields le lf lg })
