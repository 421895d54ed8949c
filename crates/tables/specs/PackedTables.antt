-- What a check of tables leaves in lent words: the nodes, if nothing is refused. Assumes nothing.
use Rattle.std.specs.Prelude.{ℕ, ◌≤◌, ◌≡◌, List, length, Ok}
use Rattle.std.proofs.Math.Option.{none}
use Rattle.lambdamix.specs.Script.{Node}
use Rattle.script.specs.Answers.{Found, Verdict}
use Rattle.script.specs.declared.columns.Columns as Lent
use Rattle.script.specs.Verdicts.{found_at}
use Rattle.script.specs.Tables.{Tables, row_node}
use Rattle.script.specs.Words.{Packed}

-- columns that hold n nodes
pub record HoldNodes (n : ℕ) (x : Lent.Columns) : Type 0 where
  pub kinds : n ≤ length x.kinds.now
  pub a : n ≤ length x.a.now
  pub b : n ≤ length x.b.now
  pub c : n ≤ length x.c.now
  pub values : n ≤ length x.values.now

-- a search for a bad node that finds none has packed them all
pub record PackedNodes (r : Found) (n : ℕ) (nodes : ℕ → Node) (after : List ℕ) : Type 0 where
  pub all : found_at r ≡ none → Packed n nodes after

-- a verdict that passes has packed the nodes; no other says anything of the words
pub record PackedTables (r : Verdict) (n : ℕ) (x : Tables) (after : List ℕ) : Type 0 where
  pub nodes : r ≡ (Ok tt) → Packed n (row_node x) after
