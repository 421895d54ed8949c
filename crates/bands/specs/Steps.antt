-- What the inner functions promise: the ends of rows and the nodes of their script, by columns. No public contract cites this file. Assumes nothing.
use Rattle.std.specs.Prelude.{ℕ, zero, suc, ◌+◌, ◌-◌, ◌≤◌, ◌<◌, ◌≡◌, Bool, true, List, [], ◌∷◌, ℤ, pos, length, get_or, set, ltb}
use Rattle.std.proofs.Math.IntN.{suc_ℤ}
use Rattle.std.specs.Int.Signed.{lt_z}
use Rattle.lambdamix.specs.Arithmetic.{lowest}
use Rattle.lambdamix.specs.Script.{Node, node_at}
use Rattle.lambdamix.specs.Code.{node}
use Rattle.script.specs.Columns.{nodes_in}
use Rattle.script.specs.Widths.{AllFit}
use Rattle.bands.specs.declared.BandNode.{BandNode}
use Rattle.bands.specs.Rows.{max_rows, start_by}
use Rattle.bands.specs.BandScript.{band_script}
use Rattle.bands.specs.Calls.{Columns, rows_in}

-- `above_before`, `left_at` and `start_at` of the rows in columns
unfoldable pub above_in : List ℤ → List ℤ → ℕ → Bool
above_in ls hs zero = true
above_in ls hs (suc k) = lt_z (get_or hs k (pos 0)) (get_or ls (suc k) (pos 0))

unfoldable pub left_in : List ℤ → ℕ → ℤ
left_in hs zero = lowest
left_in hs (suc k) = suc_ℤ (get_or hs k (pos 0))

unfoldable pub start_in : List ℤ → ℕ → ℕ → ℤ
start_in ls m k = start_by (ltb k m) (get_or ls k (pos 0))

abbrev pub node_in : BandNode → Node
node_in d = node d.kind d.a d.b d.c d.value

-- node i of a row with this next low and this grade, by its part: the input, the next low, its lift, `<`, the grade, its lift
unfoldable pub part_node : ℕ → ℕ → ℤ → ℤ → Node
part_node p i l g =
    get_or
    (node 1 0 0 0 (pos 0)
    ∷ node 0 0 0 0 l
    ∷ node 2 (i - 1) 0 0 (pos 0)
    ∷ node 12 (i - 3) (i - 1) 5 (pos 0)
    ∷ node 0 0 0 0 g
    ∷ [])
    p (node 2 (i - 1) 0 0 (pos 0))

-- there are numbers for a part's children: all parts before it stand in the script, or it is one of the last row's two
pub record PartAt (p i : ℕ) : Type 0 where
  pub before : p < 4 → p ≤ i
  pub last : p ≤ i + 4

-- columns that hold the first j nodes of the rows' script
pub record HoldsNodes (m : ℕ) (x : Columns) (j : ℕ) (ks xs ys zs : List ℕ) (vs : List ℤ) : Type 0 where
  pub held : (i : ℕ) → i < j → nodes_in ks xs ys zs vs i ≡ node_at (band_script (rows_in m x)) i

-- columns before and after one place was put, and after a node was put into place i
pub record PutAt {A : Type 0} (before : List A) (i : ℕ) (v : A) (after : List A) : Type 0 where
  pub put : after ≡ set before i v

pub record PutNode (ks xs ys zs : List ℕ) (vs : List ℤ) (i : ℕ) (d : Node) (ks' xs' ys' zs' : List ℕ) (vs' : List ℤ) : Type 0 where
  pub kinds : PutAt ks i d.kind ks'
  pub a : PutAt xs i d.a xs'
  pub b : PutAt ys i d.b ys'
  pub c : PutAt zs i d.c zs'
  pub values : PutAt vs i d.value vs'

-- node columns that are long enough
pub record Long (n : ℕ) (ks xs ys zs : List ℕ) (vs : List ℤ) : Type 0 where
  pub kinds : n ≤ length ks
  pub a : n ≤ length xs
  pub b : n ≤ length ys
  pub c : n ≤ length zs
  pub values : n ≤ length vs

-- a count of rows within its limits
pub record RowCount (m : ℕ) : Type 0 where
  pub any : 1 ≤ m
  pub few : m ≤ max_rows

-- rows that can be written
pub record Writable (m : ℕ) (x : Columns) : Type 0 where
  pub count : RowCount m
  pub low : AllFit x.low
  pub grade : AllFit x.grade
