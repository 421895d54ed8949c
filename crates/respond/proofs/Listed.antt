-- A listing behind the lines that are printed, from the promise of `list`. Assumes nothing.
use Rattle.std.specs.Prelude.{Ok}
use Rattle.std.specs.Result.{result_unwrap_or}
use Prim.Native.Nat.{ℕ, ◌+◌, ◌-◌, ◌≤◌, min}
use mathlib.Core.Path.{◌≡◌}
use mathlib.Core.List.{List, ◌++◌}
use mathlib.Core.Option.{none}
use native.Mathlib.Omega.{arith}
use lib.ListN.{length, take, drop, length-take, length-drop}
use borrow.Author.Tests.{le-leb}
use Rattle.lambdamix.specs.Refusal.{or_else, refused_unless}
use Rattle.script.specs.declared.Counts.{Counts}
use Rattle.script.specs.Tables.{Tables, tables_refusal, room_refusal, written_output}
use Rattle.script.specs.Verdicts.{writing}
use Rattle.script.proofs.ReplyLaws.{written_answer}
use Rattle.script.specs.Answers.{Writing}
use Rattle.text.specs.Places.{Put, most}
use Rattle.printer.specs.ListCalls.{tables_text, list_refusal, ListsTables}
use Rattle.text.proofs.Writing.{placed}
use Rattle.respond.specs.Stages.{ListsAt}

no_refusal :
    (n : Counts) (t : Tables) (out : List ℕ) → tables_refusal n.types n.inputs n.nodes t ≡ none →
    length (tables_text n t) ≤ length out → list_refusal n t out ≡ none
unfolding list_refusal room_refusal refused_unless or_else
no_refusal n t out e h = rw (e, le-leb (length (tables_text n t)) (length out) h)

rest_room :
    (at from : ℕ) (text x : List ℕ) → from ≡ min at (length x) → at + length text ≤ length x →
    length text ≤ length (take (length x - from) (drop from x))
rest_room at from text x f h = simp (length-take, length-drop) (omega arith)

module _ {n : Counts} {t : Tables} {x y : List ℕ} {at from : ℕ} {r : Writing}
    (f : from ≡ min at (length x)) (l : ListsTables n t (take (length x - from) (drop from x)) y r) where
  pub lists_at :
      {k e : ℕ} → k ≡ result_unwrap_or r 0 → e ≡ min (at + k) most →
      ListsAt n t at x (take from x ++ (y ++ drop (length x - from) (drop from x))) e
  unfolding writing written_output
  lists_at {k} q d = record { lists = λ passed room. placed f (put passed room) d }
    where
      put :
          tables_refusal n.types n.inputs n.nodes t ≡ none → at + length (tables_text n t) ≤ length x →
          Put (tables_text n t) (take (length x - from) (drop from x)) y k
      put passed room =
          let e = no_refusal n t (take (length x - from) (drop from x)) passed (rest_room at from (tables_text n t) x f room) in
          let g : r ≡ Ok (length (tables_text n t)) = rw e at (written_answer l.text) in
          let o : y ≡ written_output none (tables_text n t) (take (length x - from) (drop from x)) = rw e at l.text.output in
          record { counted = rw g at q; stands = λ h. o }
