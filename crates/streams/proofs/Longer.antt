-- Inputs of any length are answered by their first `max_bytes` bytes, whatever a program prints by its script and what follows it: a right head's
-- script ends before them, and what follows it is
-- then too much for settings; a wrong head is told alone. Assumes nothing.
use Prim.Native.Nat.{ℕ, ◌+◌, ◌*◌, ◌/◌, ◌≤◌, ◌<◌}
use mathlib.Core.Path.{◌≡◌, refl, sym, ap, ◌∙◌}
use mathlib.Core.Bool.{Bool, true, false, ◌&&◌, true≢false}
use mathlib.Core.List.{List}
use mathlib.Core.Option.{Option, none, some}
use native.Mathlib.Omega.{arith}
use lib.ListN.{length, take, length-drop}
use lib.Seq.{take_all, take-take, get_or-take, length-take-le}
use lib.Dec.{leb}
use borrow.Author.Tests.{le-leb}
use Rattle.lambdamix.specs.Limits.{max_types, max_inputs, max_nodes, max_bytes}
use Rattle.lambdamix.specs.Refusal.{Refusal, or_else, refused_unless}
use Rattle.lambdamix.proofs.Tests.{and_both}
use Rattle.script.specs.Bytes.{byte_at, number16}
use Rattle.script.specs.File.{file_length, node_offset, head_types, head_inputs, head_nodes}
use Rattle.script.specs.Refusals.{marked, head_marked, counts_right, file_refusal, head_refusal}
use Rattle.script.proofs.Sound.{in_limits}
use Rattle.streams.specs.Input.{head_right, script_length_by, script_length, script_part, settings_part}
use Rattle.streams.specs.Given.{program_settings}
use Rattle.streams.specs.Answers.{Texts}
use Rattle.streams.proofs.Responding.{TellsRefused}

-- ---- the head

head_fault : Bool → Refusal
head_fault true = record { number = 3; place = 0 }
head_fault false = record { number = 2; place = 0 }

-- of two faults the first is told
first_fault :
    (l m c : Bool) (n : ℕ) (r b : Option Refusal) → l ≡ true → (l && (m && c)) ≡ false →
    or_else (or_else (refused_unless l 1 n) (or_else (refused_unless m 2 0) (or_else (refused_unless c 3 0) r))) b ≡ some (head_fault m)
unfolding refused_unless or_else head_fault
first_fault false m c n r b h f = absurd (true≢false (sym h))
first_fault true true true n r b h f = absurd (true≢false f)
first_fault true true false n r b h f = refl
first_fault true false c n r b h f = refl

wrong_head :
    (bs : List ℕ) → 8 ≤ length bs → head_right bs ≡ false → file_refusal bs ≡ some (head_fault (head_marked bs 0))
unfolding head_right head_refusal file_refusal
wrong_head bs h e =
    first_fault (leb 8 (length bs)) (head_marked bs 0) (counts_right (head_types bs) (head_inputs bs) (head_nodes bs)) (length bs) _ _ (le-leb 8 (length bs) h) e

-- without a right head the whole input is the script
whole_script : (bs : List ℕ) → head_right bs ≡ false → script_part bs ≡ bs
unfolding script_part script_length script_length_by
whole_script bs e = rw e (take_all (length bs) bs (omega arith))

wrong_told :
    (bs : List ℕ) → 8 ≤ length bs → head_right bs ≡ false → file_refusal (script_part bs) ≡ some (head_fault (head_marked bs 0))
wrong_told bs h e = ap file_refusal (whole_script bs e) ∙ wrong_head bs h e

right_counts : (bs : List ℕ) → head_right bs ≡ true → counts_right (head_types bs) (head_inputs bs) (head_nodes bs) ≡ true
unfolding head_right
right_counts bs e =
    (and_both (head_marked bs 0) (counts_right (head_types bs) (head_inputs bs) (head_nodes bs))
    (and_both (leb 8 (length bs)) (head_marked bs 0 && counts_right (head_types bs) (head_inputs bs) (head_nodes bs)) e).1).1

module _ (bs : List ℕ) (long : max_bytes ≤ length bs) where
  abbrev front : List ℕ
  front = take max_bytes bs

  front_length : length front ≡ max_bytes
  front_length = length-take-le max_bytes bs long

  long_head : 8 ≤ length bs
  unfolding max_bytes
  long_head = omega (arith, long)

  front_head : 8 ≤ length front
  unfolding max_bytes
  front_head = omega (arith, front_length)

  word_same : (o : ℕ) → o < 8 → number16 front o ≡ number16 bs o
  unfolding max_bytes number16 byte_at
  word_same o h = rw (get_or-take max_bytes bs o 0 (omega arith), get_or-take max_bytes bs (o + 1) 0 (omega arith))

  types_same : head_types front ≡ head_types bs
  unfolding head_types
  types_same = word_same 2 (omega arith)

  inputs_same : head_inputs front ≡ head_inputs bs
  unfolding head_inputs
  inputs_same = word_same 4 (omega arith)

  nodes_same : head_nodes front ≡ head_nodes bs
  unfolding head_nodes
  nodes_same = word_same 6 (omega arith)

  mark_same : head_marked front 0 ≡ head_marked bs 0
  unfolding max_bytes marked byte_at
  mark_same = rw (get_or-take max_bytes bs 0 0 (omega arith), get_or-take max_bytes bs 1 0 (omega arith))

  right_same : head_right front ≡ head_right bs
  unfolding head_right
  right_same =
      rw (le-leb 8 (length front) front_head, le-leb 8 (length bs) long_head, mark_same, types_same, inputs_same, nodes_same)

  -- ---- a right head

  module _ (right : head_right bs ≡ true) where
    abbrev size : ℕ
    size = file_length (head_types bs) (head_inputs bs) (head_nodes bs)

    -- a file and the settings that are too many for any script
    size_small : size + 6 * program_settings ≤ max_bytes
    unfolding file_length node_offset program_settings max_types max_inputs max_nodes max_bytes
    size_small =
        let l = in_limits (head_types bs) (head_inputs bs) (head_nodes bs) (right_counts bs right) in
        omega (arith, l.types, l.inputs, l.nodes)

    length_bs : script_length bs ≡ size
    unfolding script_length script_length_by
    length_bs = rw right

    length_front : script_length front ≡ size
    unfolding script_length script_length_by
    length_front = rw (right_same, right, types_same, inputs_same, nodes_same)

    script_same : script_part front ≡ script_part bs
    unfolding script_part
    script_same = rw (length_front, length_bs) (take-take size max_bytes bs (omega (arith, size_small)))

    many_bs : program_settings ≤ length (settings_part bs) / 6
    unfolding settings_part
    many_bs = rw (length_bs, length-drop size bs) (omega (arith, size_small))

    many_front : program_settings ≤ length (settings_part front) / 6
    unfolding settings_part
    many_front = rw (length_front, length-drop size front, front_length) (omega (arith, size_small))

-- What a program prints for more settings than any script has inputs goes by the script alone.
pub record TellsMany (t : Texts) : Type 0 where
  pub many : List ℕ → List ℕ
  pub told :
      (file rest : List ℕ) → file_refusal file ≡ none → program_settings ≤ length rest / 6 → t.answer file rest ≡ many file

module _ (t : Texts) (tells : TellsRefused t) (most : TellsMany t) where
  -- what is printed for an input
  abbrev printed : List ℕ → List ℕ
  printed bs = t.answer (script_part bs) (settings_part bs)

  module _ (bs : List ℕ) (long : max_bytes ≤ length bs) where
    right_printed : head_right bs ≡ true → printed (take max_bytes bs) ≡ printed bs
    right_printed right = go (file_refusal (script_part bs)) refl
      where
        go : (r : Option Refusal) → file_refusal (script_part bs) ≡ r → printed (take max_bytes bs) ≡ printed bs
        go none e =
            most.told (script_part (take max_bytes bs)) (settings_part (take max_bytes bs)) (rw (script_same bs long right) e) (many_front bs long right)
            ∙ rw (script_same bs long right) (sym (most.told (script_part bs) (settings_part bs) e (many_bs bs long right)))
        go (some f) e =
            tells.told (script_part (take max_bytes bs)) (settings_part (take max_bytes bs)) f (rw (script_same bs long right) e)
            ∙ sym (tells.told (script_part bs) (settings_part bs) f e)

    wrong_printed : head_right bs ≡ false → printed (take max_bytes bs) ≡ printed bs
    wrong_printed wrong =
        let f : Refusal = head_fault (head_marked bs 0) in
        tells.told (script_part (take max_bytes bs)) (settings_part (take max_bytes bs)) f
        (wrong_told (take max_bytes bs) (front_head bs long) (right_same bs long ∙ wrong) ∙ ap (λ (b : Bool). some (head_fault b)) (mark_same bs long))
        ∙ sym (tells.told (script_part bs) (settings_part bs) f (wrong_told bs (long_head bs long) wrong))

    -- Theorem: the first bytes decide.
    pub first_bytes : printed (take max_bytes bs) ≡ printed bs
    first_bytes = go (head_right bs) refl
      where
        go : (b : Bool) → head_right bs ≡ b → printed (take max_bytes bs) ≡ printed bs
        go true e = right_printed e
        go false e = wrong_printed e
