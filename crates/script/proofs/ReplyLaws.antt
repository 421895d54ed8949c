-- Replies and the enums that the code answers with: each case of an enum has one reply, and a reply tells one refusal or what a
-- success carries. Assumes nothing.
use Rattle.std.specs.Prelude.{Err, Ok}
use Prim.Native.Nat.{ℕ}
use mathlib.Core.Path.{◌≡◌, refl, sym, ap, ◌∙◌}
use mathlib.Core.List.{List}
use mathlib.Core.Option.{Option, none, some}
use native.Mathlib.Omega.{arith}
use lib.ListN.{length}
use Rattle.lambdamix.specs.Refusal as Lambdamix
use Rattle.script.specs.declared.Counts.{Counts}
use Rattle.script.specs.Answers.{Verdict}
use Rattle.script.specs.Answers.{Reading}
use Rattle.script.specs.Answers.{Writing}
use Rattle.script.specs.Replies.{Reply, replying, verdict_reply, reading_reply, writing_reply, head_counts, Tells, Reads, WritesText}
use Rattle.script.specs.Verdicts.{refusal_of, reading, writing}
use Rattle.script.specs.Tables.{Tables, read_refusal}

apart : {A B : Type 0} (a : A) → some a ≡ none → B
apart a e = let z : ◌≡◌ {A = ℕ} 0 1 = cc in let v : ⊥ = omega arith in absurd v

carries : {A : Type 0} {a b : A} → some a ≡ some b → a ≡ b
carries e = cc

-- one reply tells one refusal
one_refusal : {A : Type 0} (a b : A) (f g : Option Lambdamix.Refusal) → replying f a ≡ replying g b → f ≡ g
unfolding replying
one_refusal a b none none e = refl
one_refusal {A} a b none (some g) e = apart a (ap (λ (r : Reply A). r.carried) e)
one_refusal {A} a b (some f) none e = apart b (sym (ap (λ (r : Reply A). r.carried) e))
one_refusal {A} a b (some f) (some g) e = rw (ap (λ (r : Reply A). r.number) e, ap (λ (r : Reply A). r.place) e)

verdict_reply_lem : (v : Verdict) → verdict_reply v ≡ replying (refusal_of v) tt
unfolding verdict_reply replying refusal_of
verdict_reply_lem (Ok tt) = refl
verdict_reply_lem (Err f) = refl

-- Between what a verdict refuses and what its reply tells.
pub refusal_tells : {v : Verdict} {p : Option Lambdamix.Refusal} → refusal_of v ≡ p → Tells p v
refusal_tells {v} e = record { reply = verdict_reply_lem v ∙ ap (λ p. replying p tt) e }

pub tells_refusal : {v : Verdict} {p : Option Lambdamix.Refusal} → Tells p v → refusal_of v ≡ p
tells_refusal {v} {p} t = one_refusal tt tt (refusal_of v) p (sym (verdict_reply_lem v) ∙ t.reply)

-- The answers of reader, writer and listing are the cases that their replies tell.
pub reading_reply_lem : (p : Option Lambdamix.Refusal) (n : Counts) → reading_reply (reading p n) ≡ replying p n
unfolding reading_reply reading replying
reading_reply_lem none n = refl
reading_reply_lem (some f) n = refl

pub writing_reply_lem : (p : Option Lambdamix.Refusal) (k : ℕ) → writing_reply (writing p k) ≡ replying p k
unfolding writing_reply writing replying
writing_reply_lem none k = refl
writing_reply_lem (some f) k = refl

is_reading : (r : Reading) (p : Option Lambdamix.Refusal) (n : Counts) → reading_reply r ≡ replying p n → r ≡ reading p n
unfolding reading_reply reading replying
is_reading (Ok m) none n e = ap Ok (carries (ap (λ (r : Reply Counts). r.carried) e))
is_reading (Ok m) (some f) n e = apart m (ap (λ (r : Reply Counts). r.carried) e)
is_reading (Err g) none n e = apart n (sym (ap (λ (r : Reply Counts). r.carried) e))
is_reading (Err g) (some f) n e = rw (← ap (λ (r : Reply Counts). r.number) e, ← ap (λ (r : Reply Counts). r.place) e)

is_writing : (r : Writing) (p : Option Lambdamix.Refusal) (k : ℕ) → writing_reply r ≡ replying p k → r ≡ writing p k
unfolding writing_reply writing replying
is_writing (Ok m) none k e = ap Ok (carries (ap (λ (r : Reply ℕ). r.carried) e))
is_writing (Ok m) (some f) k e = apart m (ap (λ (r : Reply ℕ). r.carried) e)
is_writing (Err g) none k e = apart k (sym (ap (λ (r : Reply ℕ). r.carried) e))
is_writing (Err g) (some f) k e = rw (← ap (λ (r : Reply ℕ). r.number) e, ← ap (λ (r : Reply ℕ). r.place) e)

pub read_answer : {bs : List ℕ} {x y : Tables} {r : Reading} → Reads bs x y r → r ≡ reading (read_refusal bs x) (head_counts bs)
read_answer {bs} {x} {y} {r} h = is_reading r (read_refusal bs x) (head_counts bs) h.reply

pub written_answer : {f : Option Lambdamix.Refusal} {text before after : List ℕ} {r : Writing} → WritesText f text before after r → r ≡ writing f (length text)
written_answer {f} {text} {before} {after} {r} h = is_writing r f (length text) h.reply
