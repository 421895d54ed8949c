-- Demand 3 of the maker for callers in C and Rust, by what it promises of a call: the definition is the one of the entry `make`.
-- Assumes nothing.
use Prim.Native.Nat.{ℕ}
use mathlib.Core.Path.{◌≡◌}
use mathlib.Core.List.{List}
use mathlib.Core.Option.{none}
use lib.IntN.{ℤ}
use Rattle.lambdamix.specs.declared.Mode.TheVariants.{Making}
use Rattle.script.specs.declared.Counts as Script
use Rattle.script.specs.Replies.{holding}
use Rattle.script.specs.Tables.{Tables}
use Rattle.annotation.specs.Checks.{check_refusal}
use Rattle.residual.specs.AfterRun.{Reply, number_in, steps_in, nodes_in}
use Rattle.cells.specs.Room.{Stores}
use Rattle.specializer.specs.Entry.{MakesAs}
use Rattle.specializer.specs.EntryDemand.{KeepsDemandThree}
use Rattle.specializer.proofs.EntryDemand.{making_keeps}
use Rattle.scriptmaker.specs.declared.Counts.{Counts}
use Rattle.scriptmaker.specs.declared.MakeReply.{MakeReply}
use Rattle.scriptmaker.specs.Calls.{counts_of, make_reply}

-- the struct has the reply's number, steps and nodes
in_struct :
    {n : Script.Counts} {x : Tables} {zs : List ℤ} {fuel : ℕ} {before : Stores} {left : List ℕ} (q : Reply) →
    KeepsDemandThree n x zs fuel before (number_in q) (steps_in q) (nodes_in q) left →
    KeepsDemandThree n x zs fuel before (make_reply q).number (make_reply q).steps (make_reply q).nodes left
unfolding make_reply
in_struct q h = h

-- Theorem: what `scriptmaker_make` promises of a call on an accepted script keeps demand 3.
pub make_keeps_demand_three :
    (n : Counts) (x : Tables) (zs : List ℤ) (fuel : ℕ) (before after : Stores) (out left : List ℕ) (r : MakeReply) →
    MakesAs (holding make_reply) Making (counts_of n) x zs fuel before after out left r → check_refusal n.types n.inputs n.nodes x ≡ none →
    KeepsDemandThree (counts_of n) x zs fuel before r.number r.steps r.nodes left
make_keeps_demand_three n x zs fuel before after out left r h c =
    rw (h.reply, h.output) (in_struct _ (making_keeps (counts_of n) x zs fuel before c h.fit out))
