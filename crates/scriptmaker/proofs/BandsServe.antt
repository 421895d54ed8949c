-- Bands for callers in C and Rust, by what `scriptmaker_bands` promises of a call: the definition of what it leaves is the one of the entry `bands`.
-- Assumes nothing.
use Prim.Native.Nat.{ℕ}
use mathlib.Core.Path.{◌≡◌, sym, ap, ◌∙◌}
use mathlib.Core.List.{List}
use Rattle.script.specs.Replies.{holding}
use Rattle.bands.specs.Calls.{Columns, MakesBandsAs}
use Rattle.bands.specs.Grading.{GradesByRows}
use Rattle.bands.proofs.Calls.{number_zero, bands_leave}
use Rattle.scriptmaker.specs.declared.WriteReply.{WriteReply}
use Rattle.scriptmaker.specs.Calls.{write_reply}

-- Theorem: a call of `scriptmaker_bands` whose reply has the number 0 leaves a script that is accepted and grades each reading by its row.
pub bands_grade :
    (m : ℕ) (x : Columns) (before after : List ℕ) (r : WriteReply) → MakesBandsAs (holding write_reply) m x before after r → r.number ≡ 0 →
    GradesByRows m x after
unfolding write_reply
bands_grade m x before after r h e =
    bands_leave (holding write_reply) m x before after r h (number_zero m x before _ (ap (λ (q : WriteReply). q.number) (sym h.text.reply) ∙ e))
