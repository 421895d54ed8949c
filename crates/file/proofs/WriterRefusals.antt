-- The writer refuses as the reader does: "tables whose file the reader would refuse give that refusal". Assumes nothing.
use Prim.Native.Nat.{ℕ}
use mathlib.Core.Path.{◌≡◌, sym, ap}
use mathlib.Core.List.{List}
use native.Mathlib.Omega.{arith}
use lib.ListN.{length}
use Rattle.lambdamix.specs.Script.{node_count}
use Rattle.lambdamix.specs.Refusal.{or_else, refused_unless}
use Rattle.script.specs.File.{file_bytes}
use Rattle.script.specs.Refusals.{file_refusal}
use Rattle.script.specs.Tables.{Tables, tables_script, long_enough, tables_refusal, room_refusal, write_refusal}
use Rattle.script.proofs.Rows.{type_count_lem, input_count_lem, node_count_lem, type_row, input_row, node_row}
use Rattle.script.specs.declared.Counts.{Counts}
use Rattle.script.specs.Answers.{Writing}
use Rattle.script.specs.Replies.{replying, writing_reply, Writes}
use Rattle.script.specs.Widths.{LentTables}
use Rattle.file.specs.Encodable.{Encodable}
use Rattle.file.proofs.FileLaws.{file_refusal_lem}

module _ {t i n : ℕ} {x : Tables} (lent : LentTables t i n x) where
  -- The script of lent tables fits the widths of the file.
  pub lent_encodable : Encodable (tables_script t i n x)
  unfolding node_count
  lent_encodable =
      record {
        type_count = rw (type_count_lem t i n x) lent.type_count;
        input_count = rw (input_count_lem t i n x) lent.input_count;
        node_count = rw (node_count_lem t i n x) lent.node_count;
        types = λ j l. rw (type_row t i n x j (omega (arith, type_count_lem t i n x))) (lent.types j);
        inputs = λ j l. rw (input_row t i n x j (omega (arith, input_count_lem t i n x))) (lent.inputs j);
        nodes = λ j l. rw (node_row t i n x j (omega (arith, node_count_lem t i n x))) (lent.nodes j);
      }

  -- Lent tables shorter than the counts give 1 [0]; all others are refused as the reader refuses their file.
  pub refused_as_read :
      tables_refusal t i n x
      ≡ or_else (refused_unless (long_enough t i n x) 1 0) (file_refusal (file_bytes (tables_script t i n x)))
  unfolding tables_refusal
  refused_as_read =
      ap (or_else (refused_unless (long_enough t i n x) 1 0)) (sym (file_refusal_lem (tables_script t i n x) lent_encodable))

-- So the reply of a call of `write`, by its promise alone: 1 [0], then what the reader says of the tables' file, then 21.
pub writer_refuses_as_reader :
    {n : Counts} {x : Tables} {before after : List ℕ} {r : Writing} → Writes n x before after r →
    let bs = file_bytes (tables_script n.types n.inputs n.nodes x) in
    writing_reply r
    ≡ replying
    (or_else (or_else (refused_unless (long_enough n.types n.inputs n.nodes x) 1 0) (file_refusal bs)) (room_refusal bs before))
    (length bs)
unfolding write_refusal
writer_refuses_as_reader h = rw (refused_as_read h.lent) at h.text.reply
