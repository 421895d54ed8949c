-- `calls::before::annotation_by` meets its contract: a bare run leaves the check out. Assumes nothing.
use mathlib.Core.Path.{◌≡◌}
use mathlib.Core.Option.{Option, none}
use Rattle.lambdamix.specs.declared.Mode.{Mode}
use Rattle.lambdamix.specs.declared.Mode.TheVariants.{Making, BareRun}
use Rattle.lambdamix.specs.Script.{Script}
use Rattle.lambdamix.specs.Refusal.{Refusal}
use Rattle.lambdamix.specs.Checker.{annotation_refusal}
use Rattle.script.specs.Verdicts.{refusal_of}
use Rattle.script.proofs.ReplyLaws.{tells_refusal}
use Rattle.lambdamix.specs.Specializing.{annotation_by}
use Rattle.calls.proofs.before.annotation_by.Goals as goal

bare-passes : (b : Mode) (s : Script) → b ≡ BareRun → none ≡ annotation_by b s
unfolding annotation_by
bare-passes b s e = rw e

checked : (b : Mode) (s : Script) {r : Option Refusal} → b ≡ Making → r ≡ annotation_refusal s → r ≡ annotation_by b s
unfolding annotation_by
checked b s e h = rw e h

pub returns-in-BareRun : goal.returns-in-BareRun
unfolding refusal_of
returns-in-BareRun c = λ ks xs ys zs vs ok p. bare-passes _ _ (search c.in-BareRun.is)

pub returns-in-Making : goal.returns-in-Making
returns-in-Making c =
    λ ks xs ys zs vs ok p.
    checked _ _ (search c.in-Making.is) (tells_refusal (c.annotation_refusal.ensures.reply ks xs ys zs vs ok p))
