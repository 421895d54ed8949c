-- The answers of the code that writes residual code and ends a run, in the terms of the definitions. Assumes nothing.
use Rattle.std.specs.Prelude.{ℕ, ◌+◌, ◌*◌, ◌≤◌, ◌<◌, ◌≡◌, List, [], ◌∷◌, ◌++◌, length, Ok, Err}
use Rattle.lambdamix.specs.declared.Use.{Use}
use Rattle.lambdamix.specs.Limits.{max_nodes}
use Rattle.lambdamix.specs.Script.{Node}
use Rattle.lambdamix.specs.Code.{Code, Codes, nil_c, last_node, number_after, nodes_from, all_nodes_from}
use Rattle.script.specs.File.{node_bytes, records}
use Rattle.file.specs.Written.{Put}
use Rattle.std.specs.declared.result.Result.{Result}
use Rattle.script.specs.declared.Refusal as Coded
use Rattle.residual.specs.Cells.{piece_by, field_by}
use Rattle.lambdamix.specs.Refusal.{refusal}
use Rattle.residual.specs.AfterRun.{Reply, made, unmade, Made}

-- where node 0 stands at most: behind the head and as many inputs as 16 bits count
abbrev pub max_base : ℕ
max_base = 8 + 4 * 65535

-- the nodes of code are put from number k on, where node 0 stands at base and there is room for them; r is the last, one that a
-- script can have
pub record Emits (c : Code) (base k : ℕ) (before after : List ℕ) (r : ℕ) : Type 0 where
  pub number : r ≡ last_node k c
  pub within : r < max_nodes
  pub put : base + 13 * r + 13 ≤ length before → Put before (base + 13 * k) (records node_bytes (nodes_from k c)) after

-- the same for pieces, where n is the next number; and for pieces and a node over them
pub record EmitsAll (cs : Codes) (base k : ℕ) (before after' : List ℕ) (n : ℕ) : Type 0 where
  pub next : n ≡ number_after k cs
  pub put : base + 13 * n ≤ length before → Put before (base + 13 * k) (records node_bytes (all_nodes_from k cs)) after'

pub record EmitsOver (cs : Codes) (over : Node) (base k : ℕ) (before after' : List ℕ) (r : ℕ) : Type 0 where
  pub number : r ≡ number_after k cs
  pub put : base + 13 * r + 13 ≤ length before → Put before (base + 13 * k) (records node_bytes (all_nodes_from k cs ++ (over ∷ []))) after'

-- a field whose piece would be c is put from number k on, and written as v
pub record EmitsField (u : Use) (c : Code) (f base k : ℕ) (before after' : List ℕ) (v n : ℕ) : Type 0 where
  pub value : v ≡ field_by u f (last_node k c)
  pub pieces : EmitsAll (piece_by u c nil_c) base k before after' n

-- how a run that gave code ends: with the count of its written nodes, or refused
abbrev pub Finish : Type 0
Finish = Result ℕ Coded.Refusal

-- the reply to a call whose run took these steps
unfoldable pub reply_of : Finish → ℕ → Reply
reply_of (Ok n) k = made k n
reply_of (Err f) k = unmade (refusal f.number f.place) k

-- what the call then gives
abbrev pub outcome : Finish → ℕ → List ℕ → Made
outcome r k out = record { reply = reply_of r k; output = out }
