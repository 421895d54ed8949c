-- What is packed into a word comes out of it again: a signed number's bits, and a node. Assumes nothing.
use Prim.Native.Nat.{ℕ, ◌+◌, ◌-◌, ◌%◌, ◌<◌}
use mathlib.Core.Path.{◌≡◌, refl, sym, ap, ◌∙◌}
use mathlib.Core.Bool.{Bool, true, false}
use mathlib.Core.List.{List}
use native.Mathlib.Omega.{arith}
use lib.IntN.{ℤ, pos, negsuc}
use lib.ListN.{length, get_or, set}
use lib.Seq.{get_or-set_same, get_or-set_other}
use borrow.Author.Tests.{lt-ltb, le-ltb, ltb-true, ltb-false, eqb-true, eqb-false}
use lib.Dec.{ltb, eqb}
use Rattle.lambdamix.specs.Arithmetic.{Fits32}
use Rattle.lambdamix.specs.Script.{Node}
use Rattle.script.specs.Bytes.{signed32, signed_by, bits32}
use Rattle.lambdamix.specs.Code.{node}
use Rattle.script.specs.Words.{word, word_kind, word_a, word_b, word_c, word_value, Holds, Packed}

pub bits_small : (z : ℤ) → Fits32 z → bits32 z < 4294967296
unfolding bits32
bits_small (pos n) h = omega arith
bits_small (negsuc n) h = omega arith

pub signed_bits : (z : ℤ) → Fits32 z → signed32 (bits32 z) ≡ z
unfolding signed32 bits32 signed_by
signed_bits (pos n) h = rw (lt-ltb n 2147483648 h)
signed_bits (negsuc n) h = rw (le-ltb (4294967295 - n) 2147483648 (omega arith)) (ap negsuc (omega arith))

-- the bits of the number that n stands for are n, and it has 32 bits
pub signed_both : (n : ℕ) → n < 4294967296 → (bits32 (signed32 n) ≡ n) × Fits32 (signed32 n)
unfolding signed32 signed_by bits32
signed_both n h = by (ltb n 2147483648) refl
  where
    by : (t : Bool) → ltb n 2147483648 ≡ t → (bits32 (signed_by t n) ≡ n) × Fits32 (signed_by t n)
    by true e = (refl, ltb-true n 2147483648 e)
    by false e = let l = ltb-false n 2147483648 e in (omega arith, omega arith)

-- ---- the word of a node

module _ (k a b c : ℕ) (ha : a < 65536) (hb : b < 65536) (hc : c < 65536) where
  pub kind_word : word_kind (word k a b c) ≡ k
  unfolding word_kind word
  kind_word = omega arith

  pub a_word : word_a (word k a b c) ≡ a
  unfolding word_a word
  a_word = omega arith

  pub b_word : word_b (word k a b c) ≡ b
  unfolding word_b word
  b_word = omega arith

  pub c_word : word_c (word k a b c) ≡ c
  unfolding word_c word
  c_word = omega arith

pub kind_bits : (z : ℤ) → Fits32 z → word_kind (bits32 z) ≡ 0
unfolding word_kind
kind_bits z f = omega (arith, bits_small z f)

pub value_bits : (z : ℤ) → Fits32 z → word_value (bits32 z) ≡ z
unfolding word_value
value_bits z f = let e : bits32 z % 4294967296 ≡ bits32 z = omega (arith, bits_small z f) in ap signed32 e ∙ signed_bits z f

-- the value of any word has 32 bits
pub value_fits : (w : ℕ) → Fits32 (word_value w)
unfolding word_value
value_fits w = (signed_both (w % 4294967296) (omega arith)).1

pub holds_constant : {w k a b c : ℕ} {v : ℤ} → Fits32 v → w ≡ bits32 v → k ≡ 0 → Holds w (node k a b c v)
holds_constant {v} f e z =
    record {
      kind = ap word_kind e ∙ kind_bits v f ∙ sym z;
      a = λ n. absurd (n z);
      b = λ n. absurd (n z);
      c = λ n. absurd (n z);
      value = λ n. ap word_value e ∙ value_bits v f;
    }

pub holds_step :
    {w k a b c : ℕ} {v : ℤ} → w ≡ word k a b c → a < 65536 → b < 65536 → c < 65536 → (k ≡ 0 → ⊥) →
    Holds w (node k a b c v)
holds_step {k} {a} {b} {c} e ha hb hc n =
    record {
      kind = ap word_kind e ∙ kind_word k a b c ha hb hc;
      a = λ m. ap word_a e ∙ a_word k a b c ha hb hc;
      b = λ m. ap word_b e ∙ b_word k a b c ha hb hc;
      c = λ m. ap word_c e ∙ c_word k a b c ha hb hc;
      value = λ m. absurd (n m);
    }

pub holds_row :
    {w k k' a a' b b' c c' : ℕ} {v v' : ℤ} → Holds w (node k a b c v) → k ≡ k' → a ≡ a' → b ≡ b' → c ≡ c' → v ≡ v' →
    Holds w (node k' a' b' c' v')
holds_row h pk pa pb pc pv = rw (← pk, ← pa, ← pb, ← pc, ← pv) h

-- ---- packing, node by node

pub packed_none : (nodes : ℕ → Node) (ws : List ℕ) → Packed 0 nodes ws
packed_none nodes ws = record { each = λ i h. absurd (omega arith) }

pub packed_more :
    {j w : ℕ} {nodes : ℕ → Node} {ws : List ℕ} → Packed j nodes ws → Holds w (nodes j) → j < length ws →
    Packed (j + 1) nodes (set ws j w)
packed_more {j} {w} {nodes} {ws} p h l = record { each = go }
  where
    go : (i : ℕ) → i < j + 1 → Holds (get_or (set ws j w) i 0) (nodes i)
    go i m = by (eqb i j) refl
      where
        by : (b : Bool) → eqb i j ≡ b → Holds (get_or (set ws j w) i 0) (nodes i)
        by true q = rw (eqb-true i j q, get_or-set_same ws j w 0 l) h
        by false q = let r = eqb-false i j q in rw (get_or-set_other ws j i w 0 r) (p.each i (omega arith))
