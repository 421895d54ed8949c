-- What it means that refusals 3 to 8 do not hold of a script: its counts are within their limits, each record fits, each node but the
-- root is the child of one place, and no tree is too high; and what refusals 1 to 8 say so of tables. Assumes nothing.
use Prim.Native.Nat.{ℕ, ◌≤◌, ◌<◌}
use mathlib.Core.Path.{◌≡◌}
use mathlib.Core.Bool.{true}
use mathlib.Core.Option.{none}
use native.Mathlib.Omega.{arith}
use lib.ListN.{length, get_or}
use lib.Dec.{leb}
use borrow.Author.Tests.{leb-true, eqb-true}
use Rattle.lambdamix.specs.Limits.{max_types, max_inputs, max_nodes, max_height}
use Rattle.lambdamix.specs.Script.{Script, node_at, node_count, root}
use Rattle.lambdamix.specs.Term.{tree, height}
use Rattle.lambdamix.specs.Types.{blank_type}
use Rattle.lambdamix.specs.Structure.{uses, used_once, use_refusal, low_enough, height_refusal, structure_refusal}
use Rattle.lambdamix.proofs.Tests.{and_both}
use Rattle.script.specs.Refusals.{counts_right, type_fits, input_fits, node_fits, content_of, content_refusal, script_refusal}
use Rattle.script.specs.Tables.{Tables, row_node, tables_script, tables_refusal}
use Rattle.script.proofs.Rows.{type_count_lem, input_count_lem, node_count_lem, node_row}
use Rattle.script.proofs.RefusalLaws.{neither, not_refused, no_node, no_record, passes}

-- what right counts say
pub record InLimits (t i n : ℕ) : Type 0 where
  pub types : t ≤ max_types
  pub inputs : i ≤ max_inputs
  pub some_node : 1 ≤ n
  pub nodes : n ≤ max_nodes

pub in_limits : (t i n : ℕ) → counts_right t i n ≡ true → InLimits t i n
unfolding counts_right
in_limits t i n e =
    let (a, b) = and_both (leb t max_types) _ e in
    let (c, d) = and_both (leb i max_inputs) _ b in
    let (p, q) = and_both (leb 1 n) _ d in
    record { types = leb-true _ _ a; inputs = leb-true _ _ c; some_node = leb-true _ _ p; nodes = leb-true _ _ q }

pub record Sound (s : Script) : Type 0 where
  pub within : InLimits (length s.types) (length s.inputs) (node_count s)
  pub types_fit : (j : ℕ) → j < length s.types → type_fits (λ k. get_or s.types k blank_type) j ≡ true
  pub inputs_fit : (j : ℕ) → j < length s.inputs → input_fits (λ k. get_or s.inputs k 0) j ≡ true
  pub nodes_fit : (j : ℕ) → j < node_count s → node_fits (length s.types) (length s.inputs) (node_at s) j ≡ true
  pub once : (j : ℕ) → j < root s → uses s.nodes j ≡ 1
  pub within_height : (j : ℕ) → j < node_count s → height (tree s j) ≤ max_height

pub sound : (s : Script) → script_refusal s ≡ none → Sound s
unfolding script_refusal content_refusal content_of node_count structure_refusal use_refusal used_once height_refusal low_enough
sound s e =
    let (counts, rest) = neither _ _ e in
    let (content, structure) = neither _ _ rest in
    let (types, more) = neither _ _ content in
    let (inputs, nodes) = neither _ _ more in
    let (used, tall) = neither _ _ structure in
    record {
      within = in_limits _ _ _ (not_refused _ _ _ counts);
      types_fit = λ j w. passes _ _ (no_record _ _ _ types) j w;
      inputs_fit = λ j w. passes _ _ (no_record _ _ _ inputs) j w;
      nodes_fit = λ j w. passes _ _ (no_record _ _ _ nodes) j w;
      once = λ j w. eqb-true _ 1 (passes _ _ (no_node _ _ used) j w);
      within_height = λ j w. leb-true _ _ (passes _ _ (no_node _ _ (neither _ _ tall).0) j w);
    }

-- ---- tables of which none of refusals 1 to 8 holds

module _ (t i n : ℕ) (x : Tables) (e : tables_refusal t i n x ≡ none) where
  pub tables_sound : Sound (tables_script t i n x)
  unfolding tables_refusal
  tables_sound = sound _ (neither _ _ e).1

  pub nodes_right : (j : ℕ) → j < n → node_fits t i (row_node x) j ≡ true
  unfolding node_fits tables_script
  nodes_right j l =
      rw (← type_count_lem t i n x, ← input_count_lem t i n x, ← node_row t i n x j l)
      (tables_sound.nodes_fit j (omega (arith, node_count_lem t i n x, l)))

  pub inputs_few : i ≤ max_inputs
  inputs_few = omega (arith, input_count_lem t i n x, tables_sound.within.inputs)

  pub node_there : 0 < n
  node_there = omega (arith, node_count_lem t i n x, tables_sound.within.some_node)

  pub nodes_few : n ≤ max_nodes
  nodes_few = omega (arith, node_count_lem t i n x, tables_sound.within.nodes)
