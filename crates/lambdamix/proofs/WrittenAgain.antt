-- The written script of a finished run, where 26 does not hold, passes refusals 6 to 11: it joins the checker (Checking.antt), the runs of
-- well-annotated scripts (WellAnnotated.antt) and the written script (Written.antt). Assumes nothing.
use Prim.Native.Nat.{ℕ}
use mathlib.Core.Path.{◌≡◌}
use mathlib.Core.Bool.{true}
use mathlib.Core.List.{List}
use mathlib.Core.Option.{none}
use mathlib.Core.Logic.{inl, inr}
use native.Mathlib.Omega.{arith}
use lib.IntN.{ℤ}
use Rattle.lambdamix.specs.Script.{Script}
use Rattle.lambdamix.specs.Checker.{annotation_refusal}
use Rattle.lambdamix.specs.Structure.{structure_refusal}
use Rattle.lambdamix.specs.Code.{Code, Codes, fits, written}
use Rattle.lambdamix.specs.Specializing.{specialized, finished}
use Rattle.lambdamix.proofs.Checking.{checker_accepts}
use Rattle.lambdamix.proofs.Suits.{Scoped, ScopedAll, lit_scoped, input_scoped, open_scoped, fn_scoped, form_scoped, nil_scoped, cons_scoped}
use Rattle.lambdamix.proofs.Structure.{occurs_member}
use Rattle.lambdamix.proofs.WellAnnotated as WellAnnotated
use Rattle.lambdamix.proofs.Written.{Closed, AllClosed, closed_lit, closed_ref, closed_fn, closed_form, closed_nil, closed_cons, written_accepted}

-- scoped code is closed
mutual
  pub scoped_closed : {s : Script} {N : ℕ} {O : List ℕ} {c : Code} → Scoped s N O c → Closed s O c
  scoped_closed lit_scoped = closed_lit
  scoped_closed (input_scoped i) = closed_ref (inl i)
  scoped_closed {O} (open_scoped {x} g) = closed_ref (inr (occurs_member x O (omega (arith, g.times))))
  scoped_closed (fn_scoped g c) = closed_fn (scoped_closed c)
  scoped_closed (form_scoped e cs) = closed_form e (all_closed cs)

  all_closed : {s : Script} {N k : ℕ} {O : List ℕ} {cs : Codes} → ScopedAll s N O cs k → AllClosed s O cs k
  all_closed nil_scoped = closed_nil
  all_closed (cons_scoped c cs) = closed_cons (scoped_closed c) (all_closed cs)

pub written_passes :
    (s : Script) → annotation_refusal s ≡ none → (zs : List ℤ) (fuel : ℕ) (c : Code) (k : ℕ) → specialized s zs fuel ≡ finished c k →
    fits c ≡ true → (structure_refusal (written s c) ≡ none) × (annotation_refusal (written s c) ≡ none)
written_passes s a zs fuel c k e f =
    let (l, y, q) = WellAnnotated.finished_run s zs fuel e in
    let scoped = WellAnnotated.finished_code_scoped s ((checker_accepts s).0 a) zs fuel q in
    let (structured, dynamic) = written_accepted s (scoped_closed scoped) f in
    (structured, (checker_accepts (written s c)).1 dynamic)
