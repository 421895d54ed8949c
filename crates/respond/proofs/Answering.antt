-- A script that is held is answered as the maker's call says: by what it told, or by its file, which none of 1 to 8 holds of; what is
-- listed of the file is the written tree of the code. Assumes nothing.
use Rattle.std.specs.Prelude.{Err, Ok}
use Prim.Native.Nat.{ℕ, ◌≤◌}
use mathlib.Core.Path.{◌≡◌, sym, ap, ◌∙◌}
use mathlib.Core.Bool.{true}
use mathlib.Core.List.{List, ◌++◌}
use mathlib.Core.Option.{none}
use native.Mathlib.Omega.{arith}
use lib.ListN.{length, replicate, length-replicate}
use lib.Dec.{leb, ltb}
use borrow.Author.Tests.{le-leb, leb-true}
use Rattle.lambdamix.specs.Limits.{max_inputs, max_nodes, max_height, max_fuel, program_fuel, max_bytes}
use Rattle.lambdamix.specs.Script.{Script}
use Rattle.lambdamix.specs.Checker.{annotation_refusal}
use Rattle.lambdamix.specs.Code.{Code, size, code_height, fits, written}
use Rattle.lambdamix.specs.Specializing.{specialized, finished}
use Rattle.lambdamix.specs.Listing.{listing}
use Rattle.lambdamix.proofs.Tests.{and_both}
use Rattle.script.specs.declared.Counts.{Counts}
use Rattle.script.specs.declared.Unfinished.{Unfinished}
use Rattle.script.specs.File.{file_bytes, file_length, node_offset, head_inputs, script_in}
use Rattle.script.specs.Refusals.{script_refusal, file_refusal}
use Rattle.script.specs.Replies.{head_counts}
use Rattle.file.specs.Encodable.{Encodable, AllBytes}
use Rattle.script.specs.Tables.{Tables, over}
use Rattle.script.proofs.RefusalLaws.{neither}
use Rattle.file.proofs.FileLaws.{file_refusal_lem, read_written, script_counts, script_passes}
use Rattle.file.proofs.AcceptedAgain.{written_again, values_fit}
use Rattle.residual.specs.declared.Made as Finished
use Rattle.residual.specs.AfterRun.{nodes_in, made, Made, Told, replied, written_by, after_run}
use Rattle.specializer.specs.Making.{made_unless, made_file}
use Rattle.specializer.proofs.Exactly.{made_length, made_file_lem, made_code}
use Rattle.respond.specs.Response.{program_refusal, program_made, reply_text, made_text}
use Rattle.streams.specs.Lines.{unmade_text, counts_text}
use Rattle.streams.specs.Input.{settings}
use Rattle.streams.specs.Answers.{AnswersScript}
use Rattle.respond.specs.Stages.{PrintsMade, MakesGiven, made_texts}
use Rattle.streams.specs.Printed.{Prints}
use Rattle.streams.proofs.Files.{few_inputs}
use Rattle.respond.proofs.GivenSettings.{settings_fit}
use Rattle.respond.proofs.Making.{program_made_lem}

-- ---- code that the program's run leaves and that fits a file

module _ (bs rest : List ℕ) (bytes : AllBytes bs) (all : AllBytes rest) (free : program_refusal bs rest ≡ none) {c : Code} {k : ℕ}
    (run : specialized (script_in bs) (settings rest) program_fuel ≡ finished c k) (fitting : fits c ≡ true) where
  abbrev s : Script
  s = script_in bs

  read : file_refusal bs ≡ none
  unfolding program_refusal
  read = (neither _ _ free).0

  again : Encodable (written s c) × (script_refusal (written s c) ≡ none) × (annotation_refusal (written s c) ≡ none)
  unfolding program_refusal program_fuel max_fuel
  again =
      written_again s (script_passes bs bytes read) (neither _ _ (neither _ _ free).1).0 (values_fit bs bytes) (settings rest)
      (settings_fit rest all) program_fuel (omega arith) c k run fitting

  -- its file passes 1 to 8,
  code_passes : file_refusal (file_bytes (written s c)) ≡ none
  code_passes = let (fit, passes, marks) = again in file_refusal_lem (written s c) fit ∙ passes

  -- and stands in the output
  code_file : made_file (head_inputs bs) (size c) (over (file_bytes (written s c)) (replicate max_bytes 0)) ≡ file_bytes (written s c)
  code_file = made_file_lem s c (head_inputs bs) (sym (script_counts bs).1) (replicate max_bytes 0)

  -- the output has room for it
  room : length (file_bytes (written s c)) ≤ length (replicate {A = ℕ} max_bytes 0)
  unfolding fits file_length node_offset max_inputs max_nodes max_bytes
  room =
      let small = leb-true (size c) max_nodes (and_both (leb (size c) max_nodes) (leb (code_height c) max_height) fitting).0 in
      omega (arith, made_length s c, few_inputs bs read, small, length-replicate {A = ℕ} max_bytes 0)

  -- Theorem: it is printed as its counts and the listing of its written tree.
  pub code_printed : made_text (head_inputs bs) (program_made bs rest) ≡ counts_text k (size c) ++ listing (written s c)
  unfolding made_text reply_text program_made made_unless after_run written_by
  code_printed =
      rw (free, run, fitting, le-leb (length (file_bytes (written s c))) (length (replicate {A = ℕ} max_bytes 0)) room)
      (ap (λ (w : Script). counts_text k (size c) ++ listing w) (ap script_in code_file ∙ read_written (written s c) again.0))

-- a file that the program made passes 1 to 8
made_passes :
    (bs rest : List ℕ) → AllBytes bs → AllBytes rest → (k l : ℕ) → (program_made bs rest).reply ≡ made k l →
    file_refusal (made_file (head_inputs bs) l (program_made bs rest).output) ≡ none
unfolding program_made nodes_in
made_passes bs rest bytes all k l e =
    let t = made_code (script_in bs) (settings rest) program_fuel (replicate max_bytes 0) (program_refusal bs rest) e in
    let nodes : l ≡ size t.code = sym (ap nodes_in e) ∙ ap (λ (m : Made). nodes_in m.reply) t.whole in
    ap (λ (w : ℕ). file_refusal (made_file (head_inputs bs) w (program_made bs rest).output)) nodes
    ∙ ap (λ (m : Made). file_refusal (made_file (head_inputs bs) (size t.code) m.output)) t.whole
    ∙ ap file_refusal (code_file bs rest bytes all t.free t.run t.fitting)
    ∙ code_passes bs rest bytes all t.free t.run t.fitting

-- ---- a script that is held

module _ {n : Counts} {x : Tables} {rest file left : List ℕ} {reply : Told} (m : MakesGiven n x rest file left reply)
    (zeros : file ≡ replicate max_bytes 0) {r : ℕ} {out printed : List ℕ} where
  -- the maker told number and place
  pub answered_unmade :
      {u : Unfinished} → reply ≡ Err u → Prints (unmade_text (ltb u.refusal.number 20) u.refusal.number u.refusal.place) out printed r →
      AnswersScript made_texts n x rest out printed r
  unfolding replied made_text reply_text
  answered_unmade q p = record { answers = λ bs h all long. rw (← program_made_lem h m zeros, q) p }

  -- the maker wrote a file
  pub answered_made :
      {d : Finished.Made} → reply ≡ Ok d → PrintsMade n.inputs d.steps d.nodes left out printed r → AnswersScript made_texts n x rest out printed r
  unfolding replied head_counts made_text reply_text
  answered_made {d} q p = record {
    answers = λ bs h all long.
        let gives : record { reply = made d.steps d.nodes; output = left } ≡ program_made bs rest = rw q at (program_made_lem h m zeros) in
        let passes = made_passes bs rest h.bytes all d.steps d.nodes (sym (ap (λ (g : Made). g.reply) gives)) in
        let inputs : n.inputs ≡ head_inputs bs = ap (λ (m : Counts). m.inputs) h.counts in
        rw (← gives, ← inputs) (p.prints (rw (← gives, ← inputs) at passes) long);
  }
