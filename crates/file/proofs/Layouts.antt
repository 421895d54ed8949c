-- The three kinds of records of a script file as layouts: each is read as it was written if its parts fit, and written as it
-- was read if its mark is right. Assumes nothing.
use Prim.Native.Nat.{ℕ, ◌+◌, ◌<◌}
use mathlib.Core.Path.{◌≡◌, refl, ap, ◌∙◌}
use mathlib.Core.Bool.{true}
use mathlib.Core.List.{List, [], ◌∷◌, ◌++◌}
use native.Mathlib.Omega.{arith}
use lib.ListN.{length}
use lib.Dec.{eqb}
use borrow.Author.Tests.{eqb-true, eq-eqb}
use Rattle.lambdamix.specs.Script.{FunctionType, Node, blank_node}
use Rattle.lambdamix.specs.Text.{ascii}
use Rattle.lambdamix.specs.Types.{blank_type}
use Rattle.lambdamix.proofs.Tests.{and_intro, and_both}
use Rattle.script.specs.Bytes.{byte_at, number16, number32, signed32, bits32, bytes16, bytes32}
use Rattle.script.specs.File.{type_bytes, type_from, input_bytes, input_from, node_bytes, node_from}
use Rattle.script.specs.Refusals.{marked}
use Rattle.script.specs.Widths.{EncodableType, EncodableNode}
use Rattle.file.specs.Encodable.{AllBytes}
use Rattle.file.proofs.ByteLaws.{Stands, stands_left, stands_right, stands_both, stands_nil, stands_cons, stands16}
use Rattle.file.proofs.ByteLaws.{number16_at, number16_small, value_at_lem}
use Rattle.file.proofs.ByteLaws.{value_stands, value_small}
use Rattle.file.proofs.RecordLaws.{Layout}

-- ---- the mark

pub begins_marked : {bs : List ℕ} {o x y : ℕ} {ys : List ℕ} → Stands bs o (x ∷ y ∷ ys) → marked x y bs o ≡ true
unfolding marked
begins_marked {bs} {o} {x} {y} s =
    and_intro (eq-eqb _ x (ap (byte_at bs) (omega arith) ∙ s.at 0 (omega arith))) (eq-eqb _ y (s.at 1 (omega arith)))

pub mark_stands : {bs : List ℕ} {o : ℕ} (x y : ℕ) → marked x y bs o ≡ true → Stands bs o (x ∷ y ∷ [])
unfolding marked
mark_stands {bs} {o} x y e =
    let both = and_both (eqb (byte_at bs o) x) (eqb (byte_at bs (o + 1)) y) e in
    stands_cons (eqb-true _ x both.0) (stands_cons (eqb-true _ y both.1) stands_nil)

-- ---- types

pub type_sized : (t : FunctionType) → length (type_bytes t) ≡ 6
unfolding type_bytes bytes16 ascii
type_sized t = refl

pub type_begins : {bs : List ℕ} {o : ℕ} (t : FunctionType) → Stands bs o (type_bytes t) → marked 84 89 bs o ≡ true
unfolding type_bytes ascii
type_begins t s = begins_marked s

pub type_reads :
    {bs : List ℕ} {o : ℕ} (t : FunctionType) → EncodableType t → Stands bs o (type_bytes t) → type_from bs o ≡ t
unfolding type_bytes ascii bytes16 type_from
type_reads {bs} {o} t f s = λ i. record { parameter = p i; result = r i }
  where
    parts : Stands bs (o + 2) (bytes16 t.parameter ++ bytes16 t.result)
    parts = stands_right (ascii "TY") _ s (o + 2) (omega arith)

    p : number16 bs (o + 2) ≡ t.parameter
    p = number16_at (stands_left (bytes16 t.parameter) (bytes16 t.result) parts) f.parameter

    r : number16 bs (o + 4) ≡ t.result
    r = number16_at (stands_right (bytes16 t.parameter) (bytes16 t.result) parts (o + 4) (omega arith)) f.result

pub type_writes :
    {bs : List ℕ} (o : ℕ) → AllBytes bs → marked 84 89 bs o ≡ true → Stands bs o (type_bytes (type_from bs o))
unfolding type_bytes ascii bytes16 type_from
type_writes {bs} o all e =
    stands_both (ascii "TY") _ (mark_stands 84 89 e) (o + 2) (omega arith)
    (stands_both (bytes16 (number16 bs (o + 2))) (bytes16 (number16 bs (o + 4))) (stands16 all (o + 2)) (o + 4) (omega arith)
    (stands16 all (o + 4)))

pub type_fits_lem : {bs : List ℕ} (o : ℕ) → AllBytes bs → EncodableType (type_from bs o)
unfolding type_from
type_fits_lem o all = record { parameter = number16_small all (o + 2); result = number16_small all (o + 4) }

abbrev pub type_layout : Layout FunctionType
type_layout =
    record {
      size = 6;
      first = 84;
      second = 89;
      blank = blank_type;
      write = type_bytes;
      read = type_from;
      Fits = EncodableType;
      sized = type_sized;
      begins = type_begins;
      reads = type_reads;
      writes = type_writes;
      fits = type_fits_lem;
    }

-- ---- inputs

pub input_sized : (t : ℕ) → length (input_bytes t) ≡ 4
unfolding input_bytes bytes16 ascii
input_sized t = refl

pub input_begins : {bs : List ℕ} {o : ℕ} (t : ℕ) → Stands bs o (input_bytes t) → marked 73 78 bs o ≡ true
unfolding input_bytes ascii
input_begins t s = begins_marked s

pub input_reads : {bs : List ℕ} {o : ℕ} (t : ℕ) → t < 65536 → Stands bs o (input_bytes t) → input_from bs o ≡ t
unfolding input_bytes ascii input_from
input_reads {bs} {o} t f s = number16_at (stands_right (ascii "IN") (bytes16 t) s (o + 2) (omega arith)) f

pub input_writes :
    {bs : List ℕ} (o : ℕ) → AllBytes bs → marked 73 78 bs o ≡ true → Stands bs o (input_bytes (input_from bs o))
unfolding input_bytes ascii input_from
input_writes o all e = stands_both (ascii "IN") _ (mark_stands 73 78 e) (o + 2) (omega arith) (stands16 all (o + 2))

pub input_fits_lem : {bs : List ℕ} (o : ℕ) → AllBytes bs → input_from bs o < 65536
unfolding input_from
input_fits_lem o all = number16_small all (o + 2)

abbrev pub input_layout : Layout ℕ
input_layout =
    record {
      size = 4;
      first = 73;
      second = 78;
      blank = 0;
      write = input_bytes;
      read = input_from;
      Fits = λ (t : ℕ). t < 65536;
      sized = input_sized;
      begins = input_begins;
      reads = input_reads;
      writes = input_writes;
      fits = input_fits_lem;
    }

-- ---- nodes

pub node_sized : (d : Node) → length (node_bytes d) ≡ 13
unfolding node_bytes bytes16 bytes32 ascii
node_sized d = refl

pub node_begins : {bs : List ℕ} {o : ℕ} (d : Node) → Stands bs o (node_bytes d) → marked 78 68 bs o ≡ true
unfolding node_bytes ascii
node_begins d s = begins_marked s

pub node_reads : {bs : List ℕ} {o : ℕ} (d : Node) → EncodableNode d → Stands bs o (node_bytes d) → node_from bs o ≡ d
unfolding node_bytes ascii bytes16 node_from
node_reads {bs} {o} d f s = λ i. record { kind = k i; a = pa i; b = pb i; c = pc i; value = pv i }
  where
    k : byte_at bs (o + 2) ≡ d.kind
    k = s.at 2 (omega (arith, node_sized d))

    from_a : Stands bs (o + 3) (bytes16 d.a ++ (bytes16 d.b ++ (bytes16 d.c ++ bytes32 (bits32 d.value))))
    from_a = stands_right (ascii "ND" ++ (d.kind ∷ [])) _ s (o + 3) (omega arith)

    from_b : Stands bs (o + 5) (bytes16 d.b ++ (bytes16 d.c ++ bytes32 (bits32 d.value)))
    from_b = stands_right (bytes16 d.a) _ from_a (o + 5) (omega arith)

    from_c : Stands bs (o + 7) (bytes16 d.c ++ bytes32 (bits32 d.value))
    from_c = stands_right (bytes16 d.b) _ from_b (o + 7) (omega arith)

    pa : number16 bs (o + 3) ≡ d.a
    pa = number16_at (stands_left (bytes16 d.a) _ from_a) f.a

    pb : number16 bs (o + 5) ≡ d.b
    pb = number16_at (stands_left (bytes16 d.b) _ from_b) f.b

    pc : number16 bs (o + 7) ≡ d.c
    pc = number16_at (stands_left (bytes16 d.c) _ from_c) f.c

    pv : signed32 (number32 bs (o + 9)) ≡ d.value
    pv = value_at_lem (stands_right (bytes16 d.c) _ from_c (o + 9) (omega arith)) f.value

pub node_writes :
    {bs : List ℕ} (o : ℕ) → AllBytes bs → marked 78 68 bs o ≡ true → Stands bs o (node_bytes (node_from bs o))
unfolding node_bytes ascii bytes16 node_from
node_writes {bs} o all e =
    stands_both (ascii "ND") _ (mark_stands 78 68 e) (o + 2) (omega arith)
    (stands_both (byte_at bs (o + 2) ∷ []) _ (stands_cons refl stands_nil) (o + 3) (omega arith)
    (stands_both (bytes16 (number16 bs (o + 3))) _ (stands16 all (o + 3)) (o + 5) (omega arith)
    (stands_both (bytes16 (number16 bs (o + 5))) _ (stands16 all (o + 5)) (o + 7) (omega arith)
    (stands_both (bytes16 (number16 bs (o + 7))) _ (stands16 all (o + 7)) (o + 9) (omega arith) (value_stands all (o + 9))))))

pub node_fits_lem : {bs : List ℕ} (o : ℕ) → AllBytes bs → EncodableNode (node_from bs o)
unfolding node_from
node_fits_lem o all =
    record {
      kind = all.below (o + 2);
      a = number16_small all (o + 3);
      b = number16_small all (o + 5);
      c = number16_small all (o + 7);
      value = value_small all (o + 9);
    }

abbrev pub node_layout : Layout Node
node_layout =
    record {
      size = 13;
      first = 78;
      second = 68;
      blank = blank_node;
      write = node_bytes;
      read = node_from;
      Fits = EncodableNode;
      sized = node_sized;
      begins = node_begins;
      reads = node_reads;
      writes = node_writes;
      fits = node_fits_lem;
    }
