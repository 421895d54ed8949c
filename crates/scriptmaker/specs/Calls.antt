-- The structs of the functions for callers in C and Rust. Each function promises, for every call, the record that the entry it calls does
-- (`ReadsAs`, `WritesAs`, `TellsAs`, `MakesAs`, `RunsAs`, `ListsAs`), with `holding` one of these for its form: the paper's number and place (0 and 0
-- of a success) stand in a struct. Assumes nothing.
use Rattle.std.specs.Prelude.{ℕ}
use Rattle.std.proofs.Math.Option.{Option, none, some}
use Rattle.script.specs.declared.Counts as Script
use Rattle.script.specs.Replies.{Reply}
use Rattle.residual.specs.AfterRun as AfterRun
use Rattle.residual.specs.AfterRun.{number_in, place_in, steps_in, nodes_in}
use Rattle.plainrun.specs.Running as Running
use Rattle.scriptmaker.specs.declared.Counts.{Counts}
use Rattle.scriptmaker.specs.declared.ReadReply.{ReadReply}
use Rattle.scriptmaker.specs.declared.WriteReply.{WriteReply}
use Rattle.scriptmaker.specs.declared.CheckReply.{CheckReply}
use Rattle.scriptmaker.specs.declared.MakeReply.{MakeReply}
use Rattle.scriptmaker.specs.declared.RunReply.{RunReply}

abbrev pub counts_of : Counts → Script.Counts
counts_of n = record { types = n.types; inputs = n.inputs; nodes = n.nodes }

-- what a refusal carries is written as zeros
unfoldable pub counts_in : Option Script.Counts → Counts
counts_in none = record { types = 0; inputs = 0; nodes = 0 }
counts_in (some n) = record { types = n.types; inputs = n.inputs; nodes = n.nodes }

unfoldable pub length_in : Option ℕ → ℕ
length_in none = 0
length_in (some k) = k

-- number, place and values of a reply, in the struct of the reader, of writer and listing, and of the checker
unfoldable pub read_reply : Reply Script.Counts → ReadReply
read_reply r = record { number = r.number; place = r.place; counts = counts_in r.carried }

unfoldable pub write_reply : Reply ℕ → WriteReply
write_reply r = record { number = r.number; place = r.place; length = length_in r.carried }

unfoldable pub check_reply : Reply (Unit {0}) → CheckReply
check_reply r = record { number = r.number; place = r.place }

-- the maker's answer; without code there are 0 nodes
unfoldable pub make_reply : AfterRun.Reply → MakeReply
make_reply r = record { number = number_in r; place = place_in r; steps = steps_in r; nodes = nodes_in r }

-- the plain run's answer: `function` is 1 if it gave a function, else 0; `value` is 0 unless it gave a number
unfoldable pub run_reply : Running.Reply → RunReply
run_reply r =
    record {
      number = Running.number_in r;
      place = Running.place_in r;
      steps = Running.steps_in r;
      function = Running.function_in r;
      value = Running.value_in r;
    }
