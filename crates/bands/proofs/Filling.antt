-- The loop that fills node columns: what they hold as it goes. Assumes nothing.
use Prim.Native.Nat.{ℕ, ◌+◌, ◌≤◌, ◌<◌}
use mathlib.Core.Path.{◌≡◌, refl, sym, ap, ◌∙◌}
use mathlib.Core.List.{List}
use mathlib.Core.Logic.{⊎_elim}
use native.Mathlib.Omega.{arith}
use lib.IntN.{ℤ, pos}
use lib.ListN.{length, get_or, length-set}
use lib.Seq.{get_or-set_same, get_or-set_other}
use lib.Dec.{ltb}
use borrow.Author.Tests.{ltb-true, ltb-false}
use Rattle.lambdamix.specs.Script.{Node, node_at}
use Rattle.lambdamix.specs.Code.{node}
use Rattle.lambdamix.proofs.Tests.{holds_or_fails}
use Rattle.script.specs.Columns.{nodes_in}
use Rattle.bands.specs.BandScript.{band_script, band_nodes}
use Rattle.bands.specs.Calls.{Columns, rows_in}
use Rattle.bands.specs.Rows.{max_rows}
use Rattle.bands.specs.Steps.{PutAt, PutNode, Long, HoldsNodes, RowCount}

-- a column with one place put
put_elsewhere : {A : Type 0} {l k : List A} {j : ℕ} {v : A} (d : A) (i : ℕ) → PutAt l j v k → i < j → get_or k i d ≡ get_or l i d
put_elsewhere {l} {j} {v} d i e h = rw e.put (get_or-set_other l j i v d (omega arith))

put_there : {A : Type 0} {l k : List A} {j : ℕ} {v : A} (d : A) (i : ℕ) → PutAt l j v k → i ≡ j → j < length l → get_or k i d ≡ v
put_there {l} {j} {v} d i e q h = rw (e.put, q) (get_or-set_same l j v d h)

put_length : {A : Type 0} {l k : List A} {j : ℕ} {v : A} → PutAt l j v k → length k ≡ length l
put_length {l} {j} {v} e = rw e.put (length-set l j v)

-- columns of 219 places are long enough
pub long_by :
    {m : ℕ} {ks xs ys zs : List ℕ} {vs : List ℤ} → RowCount m → Long 219 ks xs ys zs vs → Long (band_nodes m) ks xs ys zs vs
unfolding band_nodes max_rows
long_by c l =
    let few = c.few in
    record {
      kinds = omega (arith, l.kinds);
      a = omega (arith, l.a);
      b = omega (arith, l.b);
      c = omega (arith, l.c);
      values = omega (arith, l.values);
    }

module _ (m : ℕ) (x : Columns) (ks₀ xs₀ ys₀ zs₀ : List ℕ) (vs₀ : List ℤ) where
  -- the first j nodes are filled
  pub record Filling (j : ℕ) (ks xs ys zs : List ℕ) (vs : List ℤ) : Type 0 where
    pub within : j ≤ band_nodes m
    pub long : Long (band_nodes m) ks₀ xs₀ ys₀ zs₀ vs₀
    pub held : HoldsNodes m x j ks xs ys zs vs
    pub kinds : length ks ≡ length ks₀
    pub a : length xs ≡ length xs₀
    pub b : length ys ≡ length ys₀
    pub c : length zs ≡ length zs₀
    pub values : length vs ≡ length vs₀

  pub fill_begins : Long (band_nodes m) ks₀ xs₀ ys₀ zs₀ vs₀ → Filling 0 ks₀ xs₀ ys₀ zs₀ vs₀
  fill_begins h =
      record {
        within = omega arith;
        long = h;
        held = record { held = λ i l. let z : ⊥ = omega arith in absurd z };
        kinds = refl;
        a = refl;
        b = refl;
        c = refl;
        values = refl;
      }

  pub fill_goes_on :
      {j n : ℕ} {ks xs ys zs ks' xs' ys' zs' : List ℕ} {vs vs' : List ℤ} {d : Node} → Filling j ks xs ys zs vs → j < n → n ≡ band_nodes m →
      d ≡ node_at (band_script (rows_in m x)) j → PutNode ks xs ys zs vs j d ks' xs' ys' zs' vs' → Filling (j + 1) ks' xs' ys' zs' vs'
  fill_goes_on {j} {n} {ks} {xs} {ys} {zs} {ks'} {xs'} {ys'} {zs'} {vs} {vs'} {d} f h w e p =
      record {
        within = omega arith;
        long = f.long;
        held = record { held = λ i l. ⊎_elim (λ t. old i (ltb-true i j t)) (λ t. new i (omega (arith, ltb-false i j t))) (holds_or_fails (ltb i j)) };
        kinds = put_length p.kinds ∙ f.kinds;
        a = put_length p.a ∙ f.a;
        b = put_length p.b ∙ f.b;
        c = put_length p.c ∙ f.c;
        values = put_length p.values ∙ f.values;
      }
    where
      old : (i : ℕ) → i < j → nodes_in ks' xs' ys' zs' vs' i ≡ node_at (band_script (rows_in m x)) i
      old i l =
          (λ t. node (put_elsewhere 0 i p.kinds l t) (put_elsewhere 0 i p.a l t) (put_elsewhere 0 i p.b l t)
          (put_elsewhere 0 i p.c l t) (put_elsewhere (pos 0) i p.values l t))
          ∙ f.held.held i l

      new : (i : ℕ) → i ≡ j → nodes_in ks' xs' ys' zs' vs' i ≡ node_at (band_script (rows_in m x)) i
      new i q =
          (λ t. node (put_there 0 i p.kinds q (omega (arith, f.kinds, f.long.kinds)) t) (put_there 0 i p.a q (omega (arith, f.a, f.long.a)) t)
          (put_there 0 i p.b q (omega (arith, f.b, f.long.b)) t) (put_there 0 i p.c q (omega (arith, f.c, f.long.c)) t)
          (put_there (pos 0) i p.values q (omega (arith, f.values, f.long.values)) t))
          ∙ e
          ∙ ap (node_at (band_script (rows_in m x))) (sym q)

  pub fill_ends :
      {j n : ℕ} {ks xs ys zs : List ℕ} {vs : List ℤ} → Filling j ks xs ys zs vs → n ≤ j → n ≡ band_nodes m →
      HoldsNodes m x (band_nodes m) ks xs ys zs vs
  fill_ends f h w = record { held = λ i l. f.held.held i (omega arith) }

  -- what was long enough stays so
  pub fill_long : {j : ℕ} {ks xs ys zs : List ℕ} {vs : List ℤ} → Filling j ks xs ys zs vs → Long (band_nodes m) ks xs ys zs vs
  fill_long f =
      let l = f.long in
      record {
        kinds = omega (arith, f.kinds, l.kinds);
        a = omega (arith, f.a, l.a);
        b = omega (arith, f.b, l.b);
        c = omega (arith, f.c, l.c);
        values = omega (arith, f.values, l.values);
      }
