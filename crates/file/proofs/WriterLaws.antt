-- The whole file of counts and tables: its parts one after the other, and its length. Assumes nothing.
use Prim.Native.Nat.{ℕ}
use mathlib.Core.Path.{◌≡◌, refl, sym, ◌∙◌}
use mathlib.Core.List.{List, ◌++◌}
use native.Mathlib.Omega.{arith}
use lib.ListN.{length}
use Rattle.lambdamix.specs.Text.{ascii}
use Rattle.script.specs.Bytes.{bytes16}
use Rattle.script.specs.File.{head_bytes, type_bytes, input_bytes, node_bytes, records, numbered, file_bytes, type_offset, input_offset, node_offset, file_length}
use Rattle.script.specs.Tables.{Tables, row_type, row_input, row_node, tables_script}
use Rattle.file.specs.Written.{Put, head_row}
use Rattle.script.proofs.Numbered.{length_numbered}
use Rattle.file.proofs.RecordLaws.{records_length}
use Rattle.file.proofs.Layouts.{type_layout, input_layout}
use Rattle.file.proofs.FileLaws.{file_length_lem}
use Rattle.file.proofs.WritingLaws.{put_both, put_same}

module _ (t i n : ℕ) (x : Tables) where
  -- the file is as long as the counts say
  pub tables_length : length (file_bytes (tables_script t i n x)) ≡ file_length t i n
  unfolding tables_script
  tables_length =
      file_length_lem (tables_script t i n x)
      ∙ (λ y. file_length (length_numbered (row_type x) 0 t y) (length_numbered (row_input x) 0 i y) (length_numbered (row_node x) 0 n y))

  the_head : head_row t i n ≡ head_bytes (tables_script t i n x)
  unfolding head_row head_bytes tables_script
  the_head =
      sym
      (λ y.
      ascii "HD"
      ++ (bytes16 (length_numbered (row_type x) 0 t y)
      ++ (bytes16 (length_numbered (row_input x) 0 i y) ++ bytes16 (length_numbered (row_node x) 0 n y))))

  -- head, types, inputs and nodes, each put behind the other, are the file
  pub put_file :
      {l j k p m : List ℕ} → Put l 0 (head_row t i n) j → Put j (type_offset 0) (records type_bytes (numbered (row_type x) 0 t)) k
      → Put k (input_offset t 0) (records input_bytes (numbered (row_input x) 0 i)) p
      → Put p (node_offset t i 0) (records node_bytes (numbered (row_node x) 0 n)) m → Put l 0 (file_bytes (tables_script t i n x)) m
  unfolding file_bytes tables_script head_bytes ascii bytes16 type_offset input_offset node_offset
  put_file a b c d =
      put_both (put_same the_head a) refl
      (put_both b (omega (arith, records_length type_layout (numbered (row_type x) 0 t), length_numbered (row_type x) 0 t))
      (put_both c (omega (arith, records_length input_layout (numbered (row_input x) 0 i), length_numbered (row_input x) 0 i)) d))
