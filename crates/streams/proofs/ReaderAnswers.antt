-- The reader's answer, on tables that are long enough for every file: tables that it filled hold the file. Assumes nothing.
use Rattle.std.specs.Prelude.{Err, Ok}
use Prim.Native.Nat.{ℕ}
use mathlib.Core.Path.{◌≡◌, refl, sym, ◌∙◌}
use mathlib.Core.Bool.{true}
use mathlib.Core.List.{List}
use mathlib.Core.Option.{none, some}
use native.Mathlib.Omega.{arith}
use Rattle.lambdamix.specs.Limits.{max_types, max_inputs, max_nodes}
use Rattle.lambdamix.specs.Refusal.{Refusal, or_else, refused_unless}
use Rattle.script.specs.declared.Counts.{Counts}
use Rattle.script.specs.declared.Refusal as Told
use Rattle.script.specs.Answers.{Reading}
use Rattle.script.specs.File.{head_types, head_inputs, head_nodes, script_in}
use Rattle.script.specs.Refusals.{file_refusal}
use Rattle.file.specs.Encodable.{AllBytes}
use Rattle.script.specs.Tables.{Tables, filled, long_enough, read_refusal, read_tables}
use Rattle.script.specs.Replies.{head_counts, Reads}
use Rattle.script.specs.Verdicts.{reading}
use Rattle.script.proofs.ReplyLaws.{read_answer}
use Rattle.reading.proofs.FillLaws.{file_held, filled_long}
use Rattle.streams.specs.Held.{Held}
use Rattle.streams.proofs.Files.{file_counts, long_for_lem}

pub refused_not_read : {f : Told.Refusal} {n : Counts} → Err f ≡ Ok n → ⊥
refused_not_read e = let z : ◌≡◌ {A = ℕ} 0 1 = cc in omega arith

pub one_count : {told : Reading} {n m : Counts} → told ≡ Ok n → told ≡ Ok m → n ≡ m
one_count {n = n} {m = m} o q = let u : Ok n ≡ Ok m = sym o ∙ q in cc

module _ {bs : List ℕ} {x y : Tables} {r : Reading} (room : long_enough max_types max_inputs max_nodes x ≡ true) (reads : Reads bs x y r) where
  not_short : file_refusal bs ≡ none → read_refusal bs x ≡ none
  unfolding read_refusal refused_unless or_else
  not_short e = rw (e, long_for_lem (head_types bs) (head_inputs bs) (head_nodes bs) x (file_counts bs e) room)

  pub passed_read : file_refusal bs ≡ none → r ≡ Ok (head_counts bs)
  unfolding reading head_counts
  passed_read e = rw (not_short e) at (read_answer reads)

  pub refused_read :
      {f : Refusal} → file_refusal bs ≡ some f → r ≡ Err (record { number = f.number; place = f.place })
  unfolding read_refusal reading or_else
  refused_read e = rw e at (read_answer reads)

  pub held : AllBytes bs → file_refusal bs ≡ none → Held bs (head_counts bs) y
  unfolding read_tables head_counts
  held all e =
      let tables : y ≡ filled (script_in bs) x = rw (not_short e) at reads.tables in
      record {
        bytes = all;
        read = e;
        counts = refl;
        script = rw tables (file_held bs x);
        room = rw tables (filled_long max_types max_inputs max_nodes (script_in bs) x room);
      }
