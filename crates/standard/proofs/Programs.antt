-- An answer into an output of as many places as the longest has: it is written, and stands at the output's front. Assumes nothing.
use Rattle.std.specs.Prelude.{Ok, Err, None, Some, IfSome}
use Rattle.std.specs.declared.option.Option.{Option}
use Rattle.std.specs.Io.{StartsWith}
use Rattle.std.specs.Io.KnownBytes.{Appends}
use Prim.Native.Nat.{ℕ, ◌≤◌}
use mathlib.Core.Path.{◌≡◌, ap, ◌∙◌, subst}
use mathlib.Core.List.{List}
use mathlib.Core.Option.{none}
use native.Mathlib.Omega.{arith}
use lib.ListN.{length, take, drop, length-append, length-drop}
use lib.Seq.{take_at}
use mathlib.Core.Path.{refl}
use borrow.Author.Tests.{le-leb}
use Rattle.lambdamix.specs.Limits.{max_bytes}
use Rattle.lambdamix.specs.Refusal.{refused_unless}
use Rattle.script.specs.declared.Refusal.{Refusal}
use Rattle.script.specs.Answers.{Writing}
use Rattle.script.specs.Tables.{over, written_output}
use Rattle.script.specs.Verdicts.{writing}
use Rattle.script.proofs.ReplyLaws.{written_answer}
use Rattle.streams.specs.Responds.{output_refusal, Responds}

module _ {text out left : List ℕ} {r : Writing} (wide : length out ≡ max_bytes) (same : length left ≡ length out) (told : Responds text out left r) where
  free : output_refusal out ≡ none
  unfolding output_refusal refused_unless
  free = rw (le-leb max_bytes (length out) (omega arith))

  all_told : r ≡ Ok (length text)
  unfolding writing
  all_told = rw free at (written_answer told)

  stands : left ≡ over text out
  unfolding written_output
  stands = rw free at told.output

  all_fits : length text ≤ length left
  unfolding over
  all_fits = let h = simp (length-append, length-drop) at (ap length stands) in omega (arith, h, same)

  all_stands : take (length text) left ≡ text
  unfolding over
  all_stands = ap (take (length text)) stands ∙ take_at text (drop (length text) out) (length text) refl

-- What was read begins the input, and where all that is told of the answer is written, the answer to it is.
pub answer_written :
    (text : List ℕ → List ℕ) (input : Option (List ℕ)) {read out left : List ℕ} {k : ℕ} (old new : Option (List ℕ)) →
    length out ≡ max_bytes → length left ≡ length out → Responds (text read) out left (Ok k) → IfSome input (λ xs. StartsWith xs read) →
    (k ≤ length left) × (Appends old new (take k left) → IfSome input (λ xs. (bs : List ℕ) × (StartsWith xs bs × Appends old new (text bs))))
answer_written text input {read} {out} {left} {k} old new wide same told begins =
    let e : k ≡ length (text read) = let o = all_told wide same told in cc in
    let stands = all_stands wide same told in
    (omega (arith, e, all_fits wide same told), λ w. go input begins (subst (Appends old new) (ap (λ (n : ℕ). take n left) e ∙ stands) w))
  where
    go :
        (seen : Option (List ℕ)) → IfSome seen (λ xs. StartsWith xs read) → Appends old new (text read) →
        IfSome seen (λ xs. (bs : List ℕ) × (StartsWith xs bs × Appends old new (text bs)))
    go None h w = tt
    go (Some xs) h w = (read, (h, w))

pub answer_refused :
    {A : Type 0} {text out left : List ℕ} {f : Refusal} → length out ≡ max_bytes → length left ≡ length out → Responds text out left (Err f) → A
answer_refused wide same told =
    let o = all_told wide same told in
    let z : ◌≡◌ {A = ℕ} 0 1 = cc in
    let w : ⊥ = omega arith in
    absurd w
