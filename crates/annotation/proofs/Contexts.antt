-- The stack of binders and the context that it holds: what stays of it, what a binder adds, the inputs at its bottom, and that a name
-- found on it has the type that the context gives. Assumes nothing.
use Prim.Native.Nat.{ℕ, zero, suc, ◌+◌, ◌-◌, ◌/◌, ◌%◌, ◌≤◌, ◌<◌}
use mathlib.Core.Path.{◌≡◌, refl, ◌∙◌}
use mathlib.Core.Bool.{Bool, true, false}
use mathlib.Core.List.{List, [], ◌∷◌}
use mathlib.Core.Option.{Option, some}
use native.Mathlib.Omega.{arith}
use native.Mathlib.Numerals.{add-one}
use lib.ListN.{length, get_or, set, length-set}
use lib.Seq.{get_or-set_same, get_or-set_other}
use borrow.Author.Tests.{leb-true, lt-ltb, le-ltb}
use Rattle.lambdamix.specs.Limits.{max_types}
use Rattle.lambdamix.specs.Script.{Script}
use Rattle.lambdamix.specs.Types.{Ty, type_of, type_count}
use Rattle.lambdamix.specs.Typing.{Context, bind, type_at, type_at_by, input_type, input_type_by, context_from, input_context}
use Rattle.lambdamix.specs.Checker.{typed, faulty, own, provided, var_rule}
use Rattle.script.specs.Refusals.{input_fits}
use Rattle.annotation.specs.AnswerWords.{pick, limit16, fault_limit, fault_answer, type_base, type_answer, type_in, meaning, AnswersFor, given_by}
use Rattle.annotation.specs.Walks.{Pair, Binds, no_binder, one_more, bound, Pushed}
use Rattle.script.proofs.Sound.{Sound}
use Rattle.walks.specs.Walks.{Kept}
use Rattle.walks.proofs.Scopes.{kept_all}
use Rattle.annotation.proofs.TypeNumbers.{type_zero, type_one}

-- ---- answers

module _ (s : Script) (ok : Sound s) where
  pub type_answers : (t : ℕ) → t < type_count s → AnswersFor s (type_answer t) (typed (type_of s t))
  unfolding meaning type_count max_types
  type_answers t h =
      let few = ok.within.types in
      let e : type_in (type_answer t) ≡ t = omega arith in
      record { said = rw (le-ltb (type_answer t) type_base (omega arith), e); known = λ _. omega arith }

pub fault_answers :
    (s : Script) (k i : ℕ) → k < fault_limit → i < limit16 → AnswersFor s (fault_answer k i) (faulty (record { number = k; place = i }))
unfolding meaning
fault_answers s k i h l =
    let e : fault_answer k i / fault_limit ≡ i = omega arith in
    let f : fault_answer k i % fault_limit ≡ k = omega arith in
    record { said = rw (lt-ltb (fault_answer k i) type_base (omega arith), e, f); known = λ m. let z : ⊥ = omega arith in absurd z }

-- the answer by a test stands for the rule by that test
pub given_answers :
    (s : Script) → Sound s → (b : Bool) (t i : ℕ) → i < limit16 → (b ≡ true → t < type_count s) →
    AnswersFor s (given_by b t i) (own i (provided b (type_of s t)))
unfolding own provided
given_answers s ok true t i l h = type_answers s ok t (h refl)
given_answers s ok false t i l h = fault_answers s 9 i (omega arith) l

-- ---- the stack

-- binders in places that two stacks share make up one context
pub binds_kept :
    {s : Script} {xs ys : List ℕ} {d : ℕ} {Γ : Context} → Binds s xs d Γ → Kept d xs ys → Binds s ys d Γ
binds_kept no_binder a = no_binder
binds_kept (one_more {d} b p h) a =
    one_more (binds_kept b (record { same = a.same; names = λ k m. a.names k (omega arith) })) (rw (← a.names d (omega arith)) at p) h

pub kept_then : {d e : ℕ} {xs ys zs : List ℕ} → Kept d xs ys → d ≤ e → Kept e ys zs → Kept d xs zs
kept_then a l b = record { same = b.same ∙ a.same; names = λ k h. b.names k (omega arith) ∙ a.names k h }

-- a binder on top
pub binds_more :
    {s : Script} {xs ys : List ℕ} {w d e y t : ℕ} {Γ : Context} → Pushed w d e xs ys → d < length xs → Pair w t y → t < type_count s →
    Binds s xs d Γ → Binds s ys e (bind y (type_of s t) Γ)
binds_more {d} {y} {t} p l q h b =
    let (e, f) = p.top l in
    rw (e, add-one d) (one_more {y = y} {t = t} (binds_kept b p.kept) (rw f q) h)

-- pushing a binder, with room and without
pub on_top : (w d : ℕ) (xs : List ℕ) → d < length xs → Pushed w d (d + 1) xs (set xs d w)
on_top w d xs l =
    record {
      kept = record { same = length-set xs d w; names = λ k h. get_or-set_other xs d k w 0 (omega arith) };
      least = omega arith;
      top = λ _. (refl, get_or-set_same xs d w 0 l);
    }

pub no_room : (w d : ℕ) (xs : List ℕ) → length xs ≤ d → Pushed w d d xs xs
no_room w d xs l =
    record { kept = kept_all d xs; least = omega arith; top = λ h. let z : ⊥ = omega arith in absurd z }

-- ---- the inputs

input_type_lem : (s : Script) (t : ℕ) → t ≤ 1 → type_of s t ≡ input_type t
unfolding input_type input_type_by
input_type_lem s zero h = type_zero s
input_type_lem s (suc zero) h = type_one s
input_type_lem s (suc (suc t)) h = let z : ⊥ = omega arith in absurd z

bound_from :
    (s : Script) (binders : List ℕ) (k : ℕ) (ts : List ℕ) →
    ((j : ℕ) → j < length ts → Pair (get_or binders (length ts - 1 - j) 0) (get_or ts j 0) (k + j)) →
    ((j : ℕ) → j < length ts → get_or ts j 0 ≤ 1) → Binds s binders (length ts) (context_from k ts)
unfolding context_from type_count
bound_from s binders k [] p h = no_binder
bound_from s binders k (t ∷ ts) p h =
    let q = p 0 (omega arith) in
    let e : suc (length ts) - 1 - 0 ≡ length ts = omega arith in
    let f : k + 0 ≡ k = omega arith in
    let few = h 0 (omega arith) in
    rw (← input_type_lem s t few)
    (one_more (bound_from s binders (suc k) ts rest (λ j l. h (suc j) (omega arith))) (rw (e, f) at q) (omega arith))
  where
    rest : (j : ℕ) → j < length ts → Pair (get_or binders (length ts - 1 - j) 0) (get_or ts j 0) (suc k + j)
    rest j l =
        let e : suc (length ts) - 1 - suc j ≡ length ts - 1 - j = omega arith in
        let f : k + suc j ≡ suc k + j = omega arith in
        rw (e, f) at (p (suc j) (omega arith))

-- Theorem: the inputs at the bottom of a stack make up the inputs' context.
pub inputs_bound :
    (s : Script) → Sound s → (binders : List ℕ) →
    ((j : ℕ) → j < length s.inputs → Pair (get_or binders (length s.inputs - 1 - j) 0) (get_or s.inputs j 0) j) →
    Binds s binders (length s.inputs) (input_context s)
unfolding input_context input_fits
inputs_bound s ok binders p =
    bound_from s binders 0 s.inputs (λ j l. let e : 0 + j ≡ j = omega arith in rw e (p j l))
    (λ j l. leb-true _ _ (ok.inputs_fit j l))

-- ---- a name

chosen_answers :
    (s : Script) (b : Bool) (e f i : ℕ) (t : Ty) (u : Option Ty) → AnswersFor s e (own i (var_rule (some t))) →
    AnswersFor s f (own i (var_rule u)) → AnswersFor s (pick b e f) (own i (var_rule (type_at_by b t u)))
unfolding type_at_by
chosen_answers s true e f i t u p q = p
chosen_answers s false e f i t u p q = q

-- Theorem: what is found for a name among the binders stands for the rule of a variable.
pub bound_answers :
    (s : Script) → Sound s → (i y : ℕ) → i < limit16 → {binders : List ℕ} {d : ℕ} {Γ : Context} → Binds s binders d Γ →
    AnswersFor s (bound binders y i d) (own i (var_rule (type_at Γ y)))
unfolding bound type_at own var_rule
bound_answers s ok i y l no_binder = fault_answers s 9 i (omega arith) l
bound_answers s ok i y l (one_more b p h) =
    rw (p.low, p.high) (chosen_answers s _ _ _ i _ _ (type_answers s ok _ h) (bound_answers s ok i y l b))
