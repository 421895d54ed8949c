-- The files of the trials are read: none of 1 to 8 holds, and each holds its script, all rows by one computation; input A is the
-- paper's 94 bytes. Assumes nothing.
use Prim.Native.Nat.{ℕ}
use mathlib.Core.Path.{◌≡◌, refl, ap, subst}
use mathlib.Core.Option.{Option, none}
use mathlib.Core.List.{List, map}
use lib.ListN.{length}
use Rattle.lambdamix.specs.Script.{Script}
use Rattle.lambdamix.specs.Refusal.{Refusal, refused_unless}
use Rattle.lambdamix.specs.Code.{Code, written}
use Rattle.lambdamix.specs.Specializing.{Answer, finished, halted, specialized}
use Rattle.lambdamix.specs.Trials.{Trial, trials, Row, input_a}
use Rattle.lambdamix.proofs.Computing.{computing}
use Rattle.lambdamix.proofs.Trials.{each_row}
use Rattle.script.specs.Bytes.{byte_at, number16, number32, signed_by, signed32, bits32, bytes16, bytes32}
use Rattle.script.specs.File.{head_bytes, type_bytes, input_bytes, node_bytes, records, file_bytes, type_offset, input_offset, node_offset, file_length, head_types}
use Rattle.script.specs.File.{head_inputs, head_nodes, numbered, type_from, input_from, node_from, script_in}
use Rattle.script.specs.Refusals.{refused_record, counts_right, same_pair, other_pair, is_none, type_fits, input_fits, field_right, fields_right, node_fits, content_of}
use Rattle.script.specs.Refusals.{content_refusal, script_refusal, marked, mark_refusal, earlier_by, earlier, body_refusal, head_refusal, file_refusal}

-- one name that opens the definitions of files
unfoldable pub reading : Unit {0}
unfolding byte_at number16 number32 signed_by signed32 bits32 bytes16 bytes32 head_bytes type_bytes input_bytes node_bytes records file_bytes
    type_offset input_offset node_offset file_length head_types head_inputs head_nodes numbered type_from input_from node_from script_in refused_unless
    refused_record counts_right same_pair other_pair is_none type_fits input_fits field_right fields_right node_fits content_of content_refusal
    script_refusal marked mark_refusal earlier_by earlier body_refusal head_refusal file_refusal
reading = tt

-- "Input A (94 bytes)"
pub input_a_length : length (file_bytes input_a) ≡ 94
unfolding computing reading
input_a_length = refl

abbrev file_of : Trial → List ℕ
file_of t = file_bytes t.script

-- what the reader takes from the file: its refusal, the script, and that script's own refusal; and what it takes from the file of the
-- code that a run leaves
record FileRead : Type 0 where
  refusal : Option Refusal
  script : Script
  own : Option Refusal
  again : Script

-- a script made of the code that a run leaves; a run that stops leaves none
abbrev made_of : (Code → Script) → Script → Answer → Script
made_of f s (finished c k) = f c
made_of f s (halted w k) = s

abbrev answer_of : Trial → Answer
answer_of t = specialized t.script t.settings t.fuel

abbrev read_of : Trial → FileRead
read_of t =
    record {
      refusal = file_refusal (file_of t);
      script = script_in (file_of t);
      own = script_refusal t.script;
      again = made_of (λ (c : Code). script_in (file_bytes (written t.script c))) t.script (answer_of t);
    }

abbrev right_of : Trial → FileRead
right_of t = record { refusal = none; script = t.script; own = none; again = made_of (written t.script) t.script (answer_of t) }

files_read : map read_of trials ≡ map right_of trials
unfolding computing reading
files_read = refl

module _ (t : Trial) (r : Row t trials) where
  row_read : read_of t ≡ right_of t
  row_read = each_row read_of right_of trials r files_read

  -- The file of each trial is read,
  pub trial_read : file_refusal (file_bytes t.script) ≡ none
  trial_read = ap (λ (f : FileRead). f.refusal) row_read

  -- it holds the trial's script,
  pub trial_held : script_in (file_bytes t.script) ≡ t.script
  trial_held = ap (λ (f : FileRead). f.script) row_read

  -- that is past 3 to 8,
  pub trial_passes : script_refusal t.script ≡ none
  trial_passes = ap (λ (f : FileRead). f.own) row_read

  -- and the file of the code that its run leaves holds that code's script.
  pub code_held :
      (c : Code) (k : ℕ) → specialized t.script t.settings t.fuel ≡ finished c k →
      script_in (file_bytes (written t.script c)) ≡ written t.script c
  code_held c k e =
      subst
      (λ (a : Answer). made_of (λ (d : Code). script_in (file_bytes (written t.script d))) t.script a ≡ made_of (written t.script) t.script a)
      e (ap (λ (f : FileRead). f.again) row_read)
