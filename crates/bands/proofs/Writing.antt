-- The rows' script is written by the writer's entry: node columns that hold its nodes are tables that hold it, and it passes; and the length of its file.
-- Assumes nothing.
use Prim.Native.Nat.{ℕ, ◌≤◌}
use mathlib.Core.Path.{◌≡◌, sym, ap, subst, subst⁻¹, ◌∙◌}
use mathlib.Core.Bool.{true}
use mathlib.Core.List.{List, [], ◌∷◌}
use mathlib.Core.Option.{none}
use native.Mathlib.Omega.{arith}
use lib.IntN.{ℤ}
use lib.ListN.{length}
use lib.Dec.{leb}
use borrow.Author.Tests.{le-leb, leb-true}
use Rattle.lambdamix.specs.Arithmetic.{Fits32}
use Rattle.lambdamix.specs.Script.{blank_node, node_at}
use Rattle.lambdamix.specs.Refusal.{or_else, refused_unless}
use Rattle.lambdamix.specs.Code.{written}
use Rattle.lambdamix.proofs.WrittenTree.{nodes_size}
use Rattle.lambdamix.proofs.Tests.{and_intro, and_both}
use Rattle.script.specs.declared.Counts.{Counts}
use Rattle.script.specs.Answers.{Writing}
use Rattle.script.specs.File.{numbered, file_bytes, file_length, node_offset}
use Rattle.script.specs.Columns.{enough}
use Rattle.script.specs.Tables.{Tables, tables_of, row_input, row_node, tables_script, long_enough, tables_refusal, room_refusal, write_refusal}
use Rattle.script.specs.Verdicts.{Fitted}
use Rattle.script.specs.Replies.{Writes}
use Rattle.script.specs.Widths.{AllFit}
use Rattle.script.proofs.Numbered.{numbered_whole}
use Rattle.script.proofs.Rows.{everywhere}
use Rattle.script.proofs.RefusalLaws.{neither, not_refused}
use Rattle.file.proofs.FileLaws.{file_length_lem}
use Rattle.bands.specs.Rows.{Band, blank_band, band_at, max_rows, count_right, rows_refusal}
use Rattle.bands.specs.BandScript.{row_part, band_code, band_script, band_nodes, band_length}
use Rattle.bands.specs.Calls.{Columns, row_in, rows_in, band_bytes, columns_refusal}
use Rattle.bands.specs.Steps.{Long, HoldsNodes, RowCount, Writable}
use Rattle.bands.proofs.RowTests.{rows_length, band_at_lem}
use Rattle.bands.proofs.Numbering.{part_size}
use Rattle.bands.proofs.Acceptance.{Fitting, script_passes}

-- ---- the length of the file

pub script_nodes : (rows : List Band) → 1 ≤ length rows → length (band_script rows).nodes ≡ band_nodes (length rows)
unfolding band_script band_code band_nodes written
script_nodes [] h = let z : ⊥ = omega arith in absurd z
script_nodes (r ∷ rows) h = nodes_size (row_part r rows) 0 ∙ omega (arith, part_size r rows)

-- Theorem: the file of m rows has 91 m - 53 bytes.
pub band_length_lem : (rows : List Band) → 1 ≤ length rows → length (file_bytes (band_script rows)) ≡ band_length (length rows)
unfolding band_length band_nodes band_script written file_length node_offset
band_length_lem rows h = file_length_lem (band_script rows) ∙ omega (arith, script_nodes rows h)

-- ---- the numbers in columns

pub columns_fit : (m : ℕ) (x : Columns) → AllFit x.low → AllFit x.grade → Fitting (rows_in m x)
unfolding band_at row_in
columns_fit m x f g =
    record {
      low =
          everywhere (λ (r : Band). Fits32 r.low) blank_band (rows_in m x) (omega arith)
          (λ k l. subst⁻¹ (λ (r : Band). Fits32 r.low) (band_at_lem m x k (omega (arith, rows_length m x, l))) (f.fits k));
      grade =
          everywhere (λ (r : Band). Fits32 r.grade) blank_band (rows_in m x) (omega arith)
          (λ k l. subst⁻¹ (λ (r : Band). Fits32 r.grade) (band_at_lem m x k (omega (arith, rows_length m x, l))) (g.fits k));
    }

-- ---- columns that hold the nodes

-- the tables that are handed to the writer: one late input, and no type is looked at
abbrev band_tables : List ℕ → List ℕ → List ℕ → List ℕ → List ℤ → Tables
band_tables ks xs ys zs vs = tables_of (1 ∷ []) (1 ∷ []) (1 ∷ []) ks xs ys zs vs

module _ (m : ℕ) (x : Columns) {ks xs ys zs : List ℕ} {vs : List ℤ} where
  script_held :
      RowCount m → HoldsNodes m x (band_nodes m) ks xs ys zs vs →
      tables_script 0 1 (band_nodes m) (band_tables ks xs ys zs vs) ≡ band_script (rows_in m x)
  unfolding tables_script row_input row_node numbered band_script written node_at
  script_held c h =
      let n : band_nodes m ≡ length (band_script (rows_in m x)).nodes =
      sym (script_nodes (rows_in m x) (omega (arith, rows_length m x, c.any)) ∙ ap band_nodes (rows_length m x)) in
      λ i.
      record {
        types = [];
        inputs = 1 ∷ [];
        nodes =
            (ap (numbered (row_node (band_tables ks xs ys zs vs)) 0) n
            ∙ numbered_whole (row_node (band_tables ks xs ys zs vs)) blank_node (band_script (rows_in m x)).nodes (λ j l. h.held j (omega (arith, n, l))))
            i;
      }

  tables_long : Long (band_nodes m) ks xs ys zs vs → long_enough 0 1 (band_nodes m) (band_tables ks xs ys zs vs) ≡ true
  unfolding long_enough enough
  tables_long l =
      and_intro (and_intro (le-leb (band_nodes m) (length ks) l.kinds) (le-leb (band_nodes m) (length xs) l.a))
      (and_intro (le-leb (band_nodes m) (length ys) l.b)
      (and_intro (le-leb (band_nodes m) (length zs) l.c) (le-leb (band_nodes m) (length vs) l.values)))

  module _ (f : Writable m x) (h : HoldsNodes m x (band_nodes m) ks xs ys zs vs) (l : Long (band_nodes m) ks xs ys zs vs) where
    -- only a short output refuses them
    room_alone :
        (before : List ℕ) →
        write_refusal 0 1 (band_nodes m) (band_tables ks xs ys zs vs) before ≡ room_refusal (file_bytes (band_script (rows_in m x))) before
    unfolding write_refusal tables_refusal or_else refused_unless
    room_alone before =
        let n = rows_length m x in
        let passes = script_passes (rows_in m x) (omega (arith, n, f.count.any)) (rw n f.count.few) (columns_fit m x f.low f.grade) in
        rw (tables_long l, script_held f.count h, passes.1)

    -- the writer's reply on them is that of the rows' script
    pub script_written :
        {n : Counts} {before after : List ℕ} {r : Writing} → n ≡ record { types = 0; inputs = 1; nodes = band_nodes m } →
        Writes n (band_tables ks xs ys zs vs) before after r → Fitted (band_bytes m x) before after r
    unfolding band_bytes
    script_written {n} {before} {after} {r} e w =
        let t = (subst (λ (n : Counts). Writes n (band_tables ks xs ys zs vs) before after r) e w).text in
        rw (room_alone before, script_held f.count h) at t

-- ---- what the code knows

-- rows that are not refused are 1 to 32
pub row_count : (m : ℕ) (x : Columns) → columns_refusal m x ≡ none → RowCount m
unfolding columns_refusal rows_refusal count_right
row_count m x e =
    let counted = not_refused _ 30 0 (neither _ _ (neither _ _ e).1).0 in
    let both = and_both (leb 1 (length (rows_in m x))) (leb (length (rows_in m x)) max_rows) counted in
    let n = rows_length m x in
    record { any = rw n at (leb-true 1 (length (rows_in m x)) both.0); few = rw n at (leb-true (length (rows_in m x)) max_rows both.1) }
