-- The tables that a caller lends, column by column, and the script that they hold: paper 01, "The reader gives refusals 1 to 8
-- and fills lent tables; tables shorter than the counts give 21, after all its refusals. The writer takes counts and tables;
-- tables shorter than the counts give 1 [0] before all else, tables whose file the reader would refuse give that refusal, then
-- a short output 21." Assumes nothing.
use Rattle.std.specs.Prelude.{ℕ, Bool, List, ◌++◌, map, ℤ, pos, length, drop, replicate, leb}
use Rattle.std.proofs.Math.Option.{Option, none, some}
use Rattle.lambdamix.specs.Limits.{max_types, max_inputs, max_nodes}
use Rattle.lambdamix.specs.Script.{Script, FunctionType, Node}
use Rattle.lambdamix.specs.Refusal.{Refusal, or_else, refused_unless}
use Rattle.script.specs.File.{numbered, head_types, head_inputs, head_nodes, script_in, file_bytes}
use Rattle.script.specs.Refusals.{script_refusal, file_refusal}
use Rattle.script.specs.declared.columns.Columns as Lent
use Rattle.script.specs.declared.tables.ScriptTables as Own
use Rattle.script.specs.Columns.{types_in, inputs_in, nodes_in, enough}

-- two type columns, the input column, five node columns
pub record Tables : Type 0 where
  pub parameters : List ℕ
  pub results : List ℕ
  pub inputs : List ℕ
  pub kinds : List ℕ
  pub a : List ℕ
  pub b : List ℕ
  pub c : List ℕ
  pub values : List ℤ

abbrev pub tables_of : List ℕ → List ℕ → List ℕ → List ℕ → List ℕ → List ℕ → List ℕ → List ℤ → Tables
tables_of ps rs is ks xs ys zs vs =
    record { parameters = ps; results = rs; inputs = is; kinds = ks; a = xs; b = ys; c = zs; values = vs }

-- the tables in the columns that the code takes
abbrev pub tables_in : Lent.Columns → Tables
tables_in x =
    tables_of x.parameters.now x.results.now x.inputs.now x.kinds.now x.a.now x.b.now x.c.now x.values.now

-- the tables in the code's own columns, and the ones that hold zeros: 64 types, 16 inputs and 4,096 nodes
abbrev pub tables_held : Own.ScriptTables → Tables
tables_held x = tables_of x.parameters x.results x.inputs x.kinds x.a x.b x.c x.values

unfoldable pub blank_tables : Tables
blank_tables =
    tables_of (replicate max_types 0) (replicate max_types 0) (replicate max_inputs 0) (replicate max_nodes 0) (replicate max_nodes 0)
    (replicate max_nodes 0) (replicate max_nodes 0) (replicate max_nodes (pos 0))

unfoldable pub row_type : Tables → ℕ → FunctionType
row_type x j = types_in x.parameters x.results j

unfoldable pub row_input : Tables → ℕ → ℕ
row_input x j = inputs_in x.inputs j

unfoldable pub row_node : Tables → ℕ → Node
row_node x j = nodes_in x.kinds x.a x.b x.c x.values j

-- the script of the first t types, i inputs and n nodes
unfoldable pub tables_script : ℕ → ℕ → ℕ → Tables → Script
tables_script t i n x =
    record { types = numbered (row_type x) 0 t; inputs = numbered (row_input x) 0 i; nodes = numbered (row_node x) 0 n }

unfoldable pub long_enough : ℕ → ℕ → ℕ → Tables → Bool
long_enough t i n x =
    enough t i n (length x.parameters) (length x.results) (length x.inputs) (length x.kinds) (length x.a)
    (length x.b) (length x.c) (length x.values)

-- refusals 1 to 8 of counts and tables
unfoldable pub tables_refusal : ℕ → ℕ → ℕ → Tables → Option Refusal
tables_refusal t i n x = or_else (refused_unless (long_enough t i n x) 1 0) (script_refusal (tables_script t i n x))

-- the reader's reply: 1 to 8 of the file, then 21 for short tables
unfoldable pub read_refusal : List ℕ → Tables → Option Refusal
read_refusal bs x =
    or_else (file_refusal bs) (refused_unless (long_enough (head_types bs) (head_inputs bs) (head_nodes bs) x) 21 0)

-- "21: output too short [0]", for a text
unfoldable pub room_refusal : List ℕ → List ℕ → Option Refusal
room_refusal text out = refused_unless (leb (length text) (length out)) 21 0

-- the writer's reply: 1 to 8 of the tables, then 21
unfoldable pub write_refusal : ℕ → ℕ → ℕ → Tables → List ℕ → Option Refusal
write_refusal t i n x out = or_else (tables_refusal t i n x) (room_refusal (file_bytes (tables_script t i n x)) out)

-- what a lent list holds once its first places are written; "the places past what was written" stay
unfoldable pub over : {A : Type 0} → List A → List A → List A
over new old = new ++ drop (length new) old

-- the tables with a script's columns in their first places
unfoldable pub filled : Script → Tables → Tables
filled s x =
    record {
      parameters = over (map (λ (t : FunctionType). t.parameter) s.types) x.parameters;
      results = over (map (λ (t : FunctionType). t.result) s.types) x.results;
      inputs = over s.inputs x.inputs;
      kinds = over (map (λ (d : Node). d.kind) s.nodes) x.kinds;
      a = over (map (λ (d : Node). d.a) s.nodes) x.a;
      b = over (map (λ (d : Node). d.b) s.nodes) x.b;
      c = over (map (λ (d : Node). d.c) s.nodes) x.c;
      values = over (map (λ (d : Node). d.value) s.nodes) x.values;
    }

-- the tables after a call of the reader: "Output then stays untouched"
unfoldable pub read_tables : Option Refusal → List ℕ → Tables → Tables
read_tables none bs x = filled (script_in bs) x
read_tables (some f) bs x = x

-- the output after a text was written or refused
unfoldable pub written_output : Option Refusal → List ℕ → List ℕ → List ℕ
written_output none text out = over text out
written_output (some f) text out = out
