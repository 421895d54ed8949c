-- `reading::reader::fill_tables` meets its contract: each column is filled with its field of each record. Assumes nothing.
use Prim.Native.Nat.{◌+◌}
use borrow.Author.Rules.{rules}
use Rattle.script.specs.Bytes.{byte_at, number16, number32, signed32}
use Rattle.script.specs.File.{type_offset, input_offset, node_offset}
use Rattle.reading.proofs.FillLaws.{tables_filled}
use Rattle.reading.proofs.reader.fill_tables.Goals as goal

pub returns : goal.returns
unfolding byte_at
returns c =
    let bs = c.args.file.now in
    let n = c.args.n in
    tables_filled _ _ _
    (c.fill.ensures (λ j. number16 bs (type_offset j + 2)) (λ j v l q. search rules))
    (c.fill-2.ensures (λ j. number16 bs (type_offset j + 4)) (λ j v l q. search rules))
    (c.fill-3.ensures (λ k. number16 bs (input_offset n.types k + 2)) (λ j v l q. search rules))
    (c.fill-4.ensures (λ i. byte_at bs (node_offset n.types n.inputs i + 2)) (λ j v l q. search rules))
    (c.fill-5.ensures (λ i. number16 bs (node_offset n.types n.inputs i + 3)) (λ j v l q. search rules))
    (c.fill-6.ensures (λ i. number16 bs (node_offset n.types n.inputs i + 5)) (λ j v l q. search rules))
    (c.fill-7.ensures (λ i. number16 bs (node_offset n.types n.inputs i + 7)) (λ j v l q. search rules))
    (c.fill-8.ensures (λ i. signed32 (number32 bs (node_offset n.types n.inputs i + 9))) (λ j v l q. search rules))
