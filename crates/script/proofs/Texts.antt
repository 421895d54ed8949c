-- A text that is written: whole where it has room, refused where it has not, and behind a check that may refuse it first.
-- Assumes nothing.
use Rattle.std.specs.Prelude.{Err, Ok}
use Prim.Native.Nat.{ℕ, ◌≤◌, ◌<◌}
use mathlib.Core.Path.{◌≡◌}
use mathlib.Core.Bool.{true, false}
use mathlib.Core.List.{List}
use mathlib.Core.Option.{Option}
use native.Mathlib.Omega.{arith}
use lib.ListN.{length}
use lib.Dec.{leb}
use borrow.Author.Tests.{le-leb, lt-leb}
use Rattle.lambdamix.specs.Refusal as Lambdamix
use Rattle.lambdamix.specs.Refusal.{or_else, refused_unless}
use Rattle.script.specs.declared.Refusal.{Refusal}
use Rattle.script.specs.Answers.{Verdict}
use Rattle.script.specs.Answers.{Writing}
use Rattle.script.specs.Tables.{over, room_refusal, written_output}
use Rattle.script.specs.Replies.{replying, writing_reply, WritesText}
use Rattle.script.specs.Verdicts.{refusal_of, Fitted}
use Rattle.script.proofs.Verdicts.{passed_tells_none}

module _ {text before after : List ℕ} where
  pub text_fits : {k : ℕ} → k ≡ length text → k ≤ length before → after ≡ over text before → Fitted text before after (Ok k)
  unfolding room_refusal refused_unless replying writing_reply written_output
  text_fits e h p =
      let q : leb (length text) (length before) ≡ true = le-leb (length text) (length before) (omega arith) in
      record { reply = rw (q, e); output = rw q p }

  pub text_short :
      {k : ℕ} → k ≡ length text → length before < k → after ≡ before →
      Fitted text before after (Err (record { number = 21; place = 0 }))
  unfolding room_refusal refused_unless replying writing_reply written_output
  text_short e h p =
      let q : leb (length text) (length before) ≡ false = lt-leb (length text) (length before) (omega arith) in
      record { reply = rw q; output = rw q p }

module _ {v : Verdict} {p : Option Lambdamix.Refusal} {text before : List ℕ} (told : refusal_of v ≡ p) where
  pub writes_passed :
      {after : List ℕ} {r : Writing} → v ≡ (Ok tt) → Fitted text before after r →
      WritesText (or_else p (room_refusal text before)) text before after r
  unfolding or_else
  writes_passed q a = let e = passed_tells_none told q in record { reply = rw e a.reply; output = rw e a.output }

  pub writes_refused :
      {f : Refusal} {r : Writing} → v ≡ Err f → r ≡ Err f →
      WritesText (or_else p (room_refusal text before)) text before before r
  unfolding refusal_of or_else replying writing_reply written_output
  writes_refused q e = record { reply = rw (e, ← told, q); output = rw (← told, q) }
