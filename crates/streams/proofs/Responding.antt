-- An input is answered by its script and what follows it, and a call by its input where the output is long enough. Assumes nothing.
use Rattle.std.specs.Prelude.{Err, Ok}
use Prim.Native.Nat.{ℕ, ◌+◌, ◌≤◌, ◌<◌, min}
use mathlib.Core.Path.{◌≡◌, refl, sym, ◌∙◌, subst}
use mathlib.Core.Bool.{true}
use mathlib.Core.List.{List}
use mathlib.Core.Option.{Option, none, some}
use native.Mathlib.Omega.{arith}
use lib.ListN.{length, take, drop, length-take}
use lib.Seq.{get_or-take, get_or-drop}
use borrow.Author.Tests.{le-leb, lt-leb}
use Rattle.lambdamix.specs.Limits.{max_types, max_inputs, max_nodes, max_bytes}
use Rattle.script.specs.declared.Counts.{Counts}
use Rattle.script.specs.declared.Refusal as Told
use Rattle.script.specs.Answers.{Reading}
use Rattle.script.specs.Bytes.{byte_at}
use Rattle.lambdamix.specs.Refusal.{Refusal, refused_unless}
use Rattle.script.specs.Refusals.{file_refusal}
use Rattle.script.specs.Replies.{head_counts, writing_reply}
use Rattle.file.specs.Encodable.{AllBytes}
use Rattle.script.specs.Tables.{Tables, long_enough, over, written_output}
use Rattle.script.specs.Replies.{Reads}
use Rattle.text.specs.Places.{most}
use Rattle.script.proofs.Rows.{everywhere}
use Rattle.streams.specs.Input.{script_length, script_part, settings_part}
use Rattle.script.specs.Replies.{replying}
use Rattle.streams.specs.Responds.{output_refusal, Responds}
use Rattle.streams.specs.Answers.{Texts, AnswersScript, AnswersReading, Answers}
use Rattle.streams.specs.Printed.{Prints}
use Rattle.streams.proofs.Splitting.{front_part, back_part}
use Rattle.streams.proofs.ReaderAnswers.{one_count, refused_not_read, passed_read, refused_read, held}

-- ---- parts of bytes are bytes

taken_bytes : {bs : List ℕ} (k : ℕ) → AllBytes bs → AllBytes (take k bs)
unfolding byte_at
taken_bytes {bs} k all =
    record {
      below =
          everywhere (λ (b : ℕ). b < 256) 0 (take k bs) (omega arith)
          (λ i l. rw (get_or-take k bs i 0 (omega (arith, length-take k bs, l))) (all.below i));
    }

left_bytes : {bs : List ℕ} (k : ℕ) → AllBytes bs → AllBytes (drop k bs)
unfolding byte_at
left_bytes {bs} k all = record { below = λ i. rw (get_or-drop k bs i 0) (all.below (k + i)) }

script_bytes : (bs : List ℕ) → AllBytes bs → AllBytes (script_part bs)
unfolding script_part
script_bytes bs all = taken_bytes (script_length bs) all

-- a file that is refused is told as it is
pub record TellsRefused (t : Texts) : Type 0 where
  pub told : (file rest : List ℕ) (f : Refusal) → file_refusal file ≡ some f → t.answer file rest ≡ t.refusal f.number f.place

-- ---- the reader's answer

module _ {t : Texts} {x : Tables} {rest out printed : List ℕ} {told : Reading} {r : ℕ} where
  pub answered_read : {n : Counts} → told ≡ Ok n → AnswersScript t n x rest out printed r → AnswersReading t told x rest out printed r
  answered_read o a =
      record {
        refused = λ f q. absurd (refused_not_read (sym q ∙ o));
        read = λ m q. subst (λ (k : Counts). AnswersScript t k x rest out printed r) (one_count o q) a;
      }

  pub answered_refused :
      {f : Told.Refusal} → told ≡ Err f → Prints (t.refusal f.number f.place) out printed r →
      AnswersReading t told x rest out printed r
  answered_refused {f} o p =
      record {
        refused = λ g q. subst (λ (h : Told.Refusal). Prints (t.refusal h.number h.place) out printed r) (same q) p;
        read = λ m q. absurd (refused_not_read (sym o ∙ q));
      }
    where
      same : {g : Told.Refusal} → told ≡ Err g → f ≡ g
      same {g} q = let u : Err f ≡ Err g = sym o ∙ q in cc

-- ---- the input

module _ (t : Texts) (tells : TellsRefused t) (input : List ℕ) {x y : Tables} {end : ℕ} {told : Reading} {script rest : List ℕ}
    (room : long_enough max_types max_inputs max_nodes x ≡ true) (e : end ≡ min (script_length input) (length input))
    (front : script ≡ take end input) (back : rest ≡ drop end input) (reads : Reads script x y told) where
  script_read : Reads (script_part input) x y told
  unfolding script_part
  script_read = rw (front ∙ front_part (script_length input) input e) at reads

  pub input_answered :
      {out printed : List ℕ} {r : ℕ} → AllBytes input → AnswersReading t told y rest out printed r → Answers t input out printed r
  unfolding settings_part
  input_answered {out} {printed} {r} all s = record { answers = λ long. go long (file_refusal (script_part input)) refl }
    where
      go :
          max_bytes ≤ length out → (f : Option Refusal) → file_refusal (script_part input) ≡ f →
          Prints (t.answer (script_part input) (settings_part input)) out printed r
      go long none g =
          let a =
          (rw (back ∙ back_part (script_length input) input e) at s).read (head_counts (script_part input)) (passed_read room script_read g)
          in
          a.answers (script_part input) (held room script_read (script_bytes input all) g) (left_bytes (script_length input) all) long
      go long (some f) g =
          rw (tells.told (script_part input) (settings_part input) f g)
          (s.refused (record { number = f.number; place = f.place }) (refused_read room script_read g))

-- ---- the call

pub call_answered :
    {text out printed : List ℕ} {n : ℕ} → max_bytes ≤ length out → length out < most → Prints text out printed n →
    Responds text out printed (Ok n)
unfolding writing_reply replying output_refusal refused_unless written_output
call_answered {text} {out} {printed} {n} long small p =
    let fits : length text ≤ max_bytes = p.short in
    let count : n ≡ length text = omega (arith, p.placed.counted) in
    let written : printed ≡ over text out = p.placed.stands (omega arith) (omega arith) in
    record {
      reply = rw (le-leb max_bytes (length out) long, count);
      output = rw (le-leb max_bytes (length out) long) written;
    }

pub call_short : {text out : List ℕ} → length out < max_bytes → Responds text out out (Err (record { number = 21; place = 0 }))
unfolding writing_reply replying output_refusal refused_unless written_output
call_short {out} h =
    record { reply = rw (lt-leb max_bytes (length out) h); output = rw (lt-leb max_bytes (length out) h) }
