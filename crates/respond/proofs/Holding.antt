-- A file that passes 1 to 8 is read, and its listing is printed behind the counts. Assumes nothing.
use Rattle.std.specs.Prelude.{Err, Ok}
use Prim.Native.Nat.{ℕ, ◌≤◌, min}
use mathlib.Core.Path.{◌≡◌, sym, ap, ◌∙◌, subst}
use mathlib.Core.Bool.{true}
use mathlib.Core.List.{List}
use mathlib.Core.Option.{none}
use native.Mathlib.Omega.{arith}
use lib.ListN.{length, take, length-append}
use Rattle.lambdamix.specs.Limits.{max_types, max_inputs, max_nodes, max_bytes}
use Rattle.lambdamix.specs.Script.{node_count}
use Rattle.lambdamix.specs.Listing.{listing}
use Rattle.script.specs.declared.Counts.{Counts}
use Rattle.script.specs.declared.Refusal as Told
use Rattle.script.specs.Answers.{Reading}
use Rattle.script.specs.File.{file_length, head_types, head_inputs, head_nodes, script_in}
use Rattle.script.specs.Refusals.{file_refusal}
use Rattle.file.specs.Encodable.{AllBytes}
use Rattle.script.specs.Tables.{Tables, long_enough}
use Rattle.script.specs.Replies.{head_counts, Reads}
use Rattle.script.proofs.Sound.{in_limits}
use Rattle.file.proofs.FileLaws.{read_fits, script_counts, script_passes}
use Rattle.printer.specs.ListCalls.{tables_text}
use Rattle.text.proofs.Writing.{join}
use Rattle.printer.proofs.ListingBound.{listing_bytes_lem}
use Rattle.specializer.specs.Making.{made_file}
use Rattle.respond.specs.Stages.{listing_bytes, ListsAt, ListsFile, PrintsMade}
use Rattle.streams.specs.Printed.{lines_bytes, CountsPlaced}
use Rattle.streams.specs.Held.{Held}
use Rattle.streams.proofs.Files.{file_counts, held_passes}
use Rattle.streams.proofs.ReaderAnswers.{one_count, refused_not_read, passed_read, held}
use Rattle.streams.proofs.Splitting.{front_part}

-- ---- the listing of a file

file_bytes_lem : (bs : List ℕ) → AllBytes bs → file_refusal bs ≡ none → length (listing (script_in bs)) ≤ listing_bytes
unfolding node_count listing_bytes max_nodes
file_bytes_lem bs all e =
    let c = script_counts bs in
    let l = in_limits (head_types bs) (head_inputs bs) (head_nodes bs) (file_counts bs e) in
    omega (arith, listing_bytes_lem (script_in bs) (read_fits bs all) (script_passes bs all e), c.2, l.nodes)

module _ {bs : List ℕ} {x y : Tables} {told : Reading} {at : ℕ} {before after : List ℕ} {e : ℕ}
    (room : long_enough max_types max_inputs max_nodes x ≡ true) (reads : Reads bs x y told) where
  -- a file that passes is read, and its tables hold it;
  pub file_listed : {n : Counts} → AllBytes bs → told ≡ Ok n → ListsAt n y at before after e → ListsFile bs at before after e
  unfolding tables_text
  file_listed all o l =
      record {
        lists = λ passed enough.
            let h : Held bs (head_counts bs) y = held room reads all passed in
            let text : tables_text (head_counts bs) y ≡ listing (script_in bs) = ap listing h.script in
            let short = file_bytes_lem bs all passed in
            let here = subst (λ (k : Counts). ListsAt k y at before after e) (one_count o (passed_read room reads passed)) l in
            record { short = short; placed = rw text at (here.lists (held_passes h) (rw text (omega arith))) };
      }

  -- one that is refused does not pass
  pub never_listed : {f : Told.Refusal} → told ≡ Err f → ListsFile bs at before after e
  never_listed o = record { lists = λ passed enough. absurd (refused_not_read (sym o ∙ passed_read room reads passed)) }

-- ---- the counts and the listing

pub made_printed :
    {i k n size end at r : ℕ} {file x x₁ y : List ℕ} →
    end ≡ min size (length file) → size ≡ file_length 0 i n → length x₁ ≡ length x → CountsPlaced k n x x₁ at →
    ListsFile (take end file) at x₁ y r → PrintsMade i k n file x y r
unfolding lines_bytes listing_bytes max_bytes max_nodes made_file
made_printed {i} {k} {n} {file = file} e s same c l =
    let part = front_part (file_length 0 i n) file (e ∙ ap (λ (m : ℕ). min m (length file)) s) in
    record {
      prints = λ passed wide.
          let g = (rw part at l).lists passed (omega (arith, c.placed.counted, c.short)) in
          record {
            short = simp length-append (omega (arith, c.short, g.short));
            placed = join c.placed g.placed;
          };
    }
