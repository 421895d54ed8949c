-- Two checks, one after the other: a verdict that refuses is told, one that passes leaves the next check to tell. Assumes nothing.
use Rattle.std.specs.Prelude.{Err, Ok}
use mathlib.Core.Path.{◌≡◌, sym, ap, ◌∙◌}
use mathlib.Core.Option.{Option, none}
use Rattle.lambdamix.specs.Refusal as Lambdamix
use Rattle.lambdamix.specs.Refusal.{or_else}
use Rattle.script.specs.declared.Refusal.{Refusal}
use Rattle.script.specs.Answers.{Verdict}
use Rattle.script.specs.Verdicts.{refusal_of}

module _ {v : Verdict} {p : Option Lambdamix.Refusal} (told : refusal_of v ≡ p) where
  pub passed_tells_none : v ≡ (Ok tt) → p ≡ none
  unfolding refusal_of
  passed_tells_none e = sym told ∙ ap refusal_of e

  pub refused_tells_first :
      (r : Option Lambdamix.Refusal) {f : Refusal} {w : Verdict} → v ≡ Err f → w ≡ Err f → refusal_of w ≡ or_else p r
  unfolding refusal_of or_else
  refused_tells_first r e h = rw (h, ← told, e)

  pub passed_tells_next : {q r : Option Lambdamix.Refusal} → v ≡ (Ok tt) → q ≡ r → q ≡ or_else p r
  unfolding refusal_of or_else
  passed_tells_next e h = rw (← told, e) h
