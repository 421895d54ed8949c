-- The reply to the root's answer, by the tag of its word. Assumes nothing.
use Prim.Native.Nat.{ℕ, ◌-◌, ◌/◌, ◌≤◌}
use mathlib.Core.Path.{◌≡◌, sym, ap, ◌∙◌, subst}
use native.Mathlib.Omega.{arith}
use Rattle.lambdamix.specs.declared.Reason.TheVariants.{Clash}
use Rattle.lambdamix.specs.Refusal.{refusal}
use Rattle.lambdamix.specs.PlainRun.{a_number, a_function, plain_reason_number}
use Rattle.script.specs.Words.{word_value, columns_in}
use Rattle.cells.specs.RunWords.{Answer, State, low16, number_tag, code_tag, function_tag, first_stop, reason_at, decode, decode_by, answer_in}
use Rattle.cells.proofs.Words.{is_value, is_stop}
use mathlib.Core.List.{List}
use lib.IntN.{ℤ}
use Rattle.lambdamix.specs.Limits.{max_depth}
use Rattle.script.specs.declared.Counts.{Counts}
use Rattle.cells.specs.Room.{Stores, stores}
use Rattle.cells.specs.RunWords.{state_in}
use Rattle.machine.specs.Machine.{ended, visit, run}
use Rattle.machine.specs.Start.{started_with, root_out}
use Rattle.erasure.specs.Erasing.{target, erased_to}
use Rattle.plainrun.specs.Running.{Told, Reply, ran, unfinished, replied}
use Rattle.plainrun.specs.Erased.{after_answer, plain_start, plain_out, RunsNodes}

-- the root i, the fuel, and the state after
module _ (i fuel : ℕ) (s : State) (w : ℕ) where
  module _ {t : ℕ} (tag : t ≡ w / 4294967296) where
    pub number_told : {r : Reply} → t ≡ number_tag → r ≡ ran (a_number (word_value w)) (fuel - s.left) → r ≡ after_answer i (answer_in w s) fuel
    unfolding word_value decode decode_by after_answer
    number_told h e =
        let q : w / 4294967296 ≡ number_tag = sym tag ∙ h in
        e ∙ sym (ap (λ (a : Answer). after_answer i a fuel) (is_value w s (omega arith)) ∙ rw q)

    pub function_told : {r : Reply} → t ≡ function_tag → r ≡ ran a_function (fuel - s.left) → r ≡ after_answer i (answer_in w s) fuel
    unfolding decode decode_by after_answer
    function_told h e =
        let q : w / 4294967296 ≡ function_tag = sym tag ∙ h in
        e ∙ sym (ap (λ (a : Answer). after_answer i a fuel) (is_value w s (omega arith)) ∙ rw q)

  pub code_told : w / 4294967296 ≡ code_tag → unfinished (refusal (plain_reason_number Clash) i) (fuel - s.left) ≡ after_answer i (answer_in w s) fuel
  unfolding decode decode_by after_answer
  code_told q = sym (ap (λ (a : Answer). after_answer i a fuel) (is_value w s (omega arith)) ∙ rw q)

  pub stop_told :
      first_stop ≤ w / 4294967296 →
      unfinished (refusal (plain_reason_number (reason_at (w / 4294967296 - first_stop))) (low16 w)) (fuel - s.left) ≡ after_answer i (answer_in w s) fuel
  unfolding after_answer
  stop_told h = sym (ap (λ (a : Answer). after_answer i a fuel) (is_stop w s h))

-- all nodes were erased for a run
pub erased_runs :
    {n : Counts} {es : List ℕ} {zs : List ℤ} {fuel k : ℕ} {heap : List ℕ} {r : Told} (ws : List ℕ) →
    k ≡ n.nodes → es ≡ erased_to k ws → RunsNodes n es zs fuel heap r → RunsNodes n (erased_to n.nodes ws) zs fuel heap r
erased_runs {n} {es} {zs} {fuel} {heap} {r} ws e f h =
    subst (λ j. RunsNodes n (erased_to j ws) zs fuel heap r) e (subst (λ xs. RunsNodes n xs zs fuel heap r) f h)

-- The run: from the state in s₀ that the start gives, the visit of what stands for the root gives the word q and the state in st, whose answer is told.
pub run_told :
    {n : Counts} {ws : List ℕ} {zs : List ℤ} {fuel root top d e : ℕ} {heap : List ℕ} {after : Stores} {x k : List ℕ} {r : Told} (q s₀ st : ℕ) →
    root ≡ n.nodes - 1 → top ≡ target ws root → d ≡ max_depth →
    started_with (state_in s₀) x k ≡ plain_start n zs fuel heap → e ≡ (state_in s₀).heap →
    ended (answer_in q (state_in st)) after ≡ run (columns_in ws) d (visit e top) (state_in s₀) (stores x k) →
    replied r ≡ after_answer root (answer_in q (state_in st)) fuel → RunsNodes n ws zs fuel heap r
unfolding plain_out root_out
run_told {ws} {top} {d = deep} {x} {k} q s₀ st i t d b e v g =
    let u = v ∙ ap (λ (z : ℕ). run (columns_in ws) deep (visit z top) (state_in s₀) (stores x k)) e in
    record { gives = rw (← i, ← t, ← d, ← b, ← u) g }
