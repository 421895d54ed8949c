-- The end of a run that gave code: its file is put part behind part, and the reply and the output are those of paper 01, "26, 21".
-- Assumes nothing.
use Prim.Native.Nat.{ℕ, ◌+◌, ◌*◌, ◌≤◌, ◌<◌}
use mathlib.Core.Path.{◌≡◌, refl, sym, ap, ◌∙◌}
use mathlib.Core.Bool.{true, false}
use mathlib.Core.List.{List, ◌++◌}
use native.Mathlib.Omega.{arith}
use lib.ListN.{length}
use lib.Dec.{leb}
use borrow.Author.Tests.{leb-true, le-leb, lt-leb}
use Rattle.std.specs.Prelude.{Ok, Err}
use Rattle.lambdamix.specs.Limits.{max_nodes, max_height}
use Rattle.lambdamix.specs.Text.{ascii}
use Rattle.lambdamix.specs.Script.{Script}
use Rattle.lambdamix.specs.Code.{Code, size, code_height, fits, last_node, nodes_from, written}
use Rattle.lambdamix.specs.Specializing.{finished}
use Rattle.lambdamix.proofs.Tests.{and_both}
use Rattle.lambdamix.proofs.WrittenTree.{top_last, nodes_size}
use Rattle.script.specs.Bytes.{bytes16}
use Rattle.script.specs.File.{head_bytes, input_bytes, node_bytes, records, numbered, file_bytes, file_length, input_offset, node_offset}
use Rattle.file.specs.Written.{Put, head_row}
use Rattle.script.proofs.Numbered.{length_numbered}
use Rattle.file.proofs.RecordLaws.{records_length}
use Rattle.file.proofs.Layouts.{input_layout}
use Rattle.file.proofs.FileLaws.{file_length_lem}
use Rattle.file.proofs.WritingLaws.{put_length, put_both, put_same, put_over}
use Rattle.residual.specs.AfterRun.{written_by, after_run}
use Rattle.emission.specs.Emission.{reply_of, outcome}

-- ---- counts

top_count : {n r : ℕ} (c : Code) → n ≡ size c → r ≡ last_node 0 c → r + 1 ≡ n
top_count c e f = omega (arith, top_last c 0, nodes_size c 0)

-- the last node's number is below the count of nodes
pub top_within : {n : ℕ} (c : Code) → n ≡ size c → n ≤ max_nodes → last_node 0 c < max_nodes
top_within c e h = omega (arith, top_last c 0, nodes_size c 0)

pub fits_small : {n : ℕ} (c : Code) → n ≡ size c → fits c ≡ true → n ≤ max_nodes
unfolding fits
fits_small c e h =
    omega (arith, leb-true (size c) max_nodes (and_both (leb (size c) max_nodes) (leb (code_height c) max_height) h).0)

-- ---- the file

module _ (s : Script) (g : ℕ → ℕ) (count : ℕ) (i : s.inputs ≡ numbered g 0 count) (c : Code) {n : ℕ} (e : n ≡ size c) where
  inputs_count : length s.inputs ≡ count
  inputs_count = ap length i ∙ length_numbered g 0 count

  pub file_size : length (file_bytes (written s c)) ≡ file_length 0 count n
  unfolding written file_length node_offset
  file_size = file_length_lem (written s c) ∙ omega (arith, inputs_count, nodes_size c 0)

  the_head : head_row 0 count n ≡ head_bytes (written s c)
  unfolding head_row head_bytes written
  the_head =
      λ y. ascii "HD" ++ (bytes16 0 ++ (bytes16 (sym inputs_count y) ++ bytes16 ((e ∙ sym (nodes_size c 0)) y)))

  -- head, inputs and nodes, each put behind the other, are the file
  pub put_written :
      {l j k m : List ℕ} {base : ℕ} → Put l 0 (head_row 0 count n) j → Put j (input_offset 0 0) (records input_bytes (numbered g 0 count)) k →
      base ≡ node_offset 0 count 0 → Put k (base + 13 * 0) (records node_bytes (nodes_from 0 c)) m → Put l 0 (file_bytes (written s c)) m
  unfolding file_bytes written head_bytes records ascii bytes16 input_offset node_offset
  put_written p q b r =
      put_both (put_same the_head p) refl
      (put_both (put_same (ap (records input_bytes) (sym i)) q) (omega (arith, records_length input_layout s.inputs, inputs_count)) r)

  -- the nodes have room where the file has
  pub nodes_room :
      {l j k : List ℕ} {base r : ℕ} → file_length 0 count n ≤ length l → Put l 0 (head_row 0 count n) j →
      Put j (input_offset 0 0) (records input_bytes (numbered g 0 count)) k → base ≡ node_offset 0 count 0 → r ≡ last_node 0 c →
      base + 13 * r + 13 ≤ length k
  unfolding file_length node_offset
  nodes_room h p q b t = omega (arith, h, top_count c e t, put_length p, put_length q)

  -- ---- the replies

  module _ (k : ℕ) (f : fits c ≡ true) {before : List ℕ} where
    pub finish_written :
        {after : List ℕ} → file_length 0 count n ≤ length before → Put before 0 (file_bytes (written s c)) after →
        outcome (Ok n) k after ≡ after_run s (finished c k) before
    unfolding reply_of after_run written_by
    finish_written h p =
        let l : length (file_bytes (written s c)) ≤ length before = omega (arith, file_size) in
        rw (f, le-leb (length (file_bytes (written s c))) (length before) l, e, put_over p l)

    pub finish_short :
        length before < file_length 0 count n →
        outcome (Err (record { number = 21; place = 0 })) k before ≡ after_run s (finished c k) before
    unfolding reply_of after_run written_by
    finish_short h =
        let l : length before < length (file_bytes (written s c)) = omega (arith, file_size) in
        rw (f, lt-leb (length (file_bytes (written s c))) (length before) l)

pub finish_unfit :
    (s : Script) (c : Code) (k : ℕ) {before : List ℕ} → fits c ≡ false →
    outcome (Err (record { number = 26; place = 0 })) k before ≡ after_run s (finished c k) before
unfolding reply_of after_run written_by
finish_unfit s c k f = rw f
