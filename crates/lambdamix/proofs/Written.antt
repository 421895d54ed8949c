-- Code whose free names are late inputs' is written as a script that passes refusals 6 to 8, where 26 does not hold, and
-- whose root is dynamic: paper 01, "Making". Assumes nothing.
use Prim.Native.Nat.{ℕ, zero, suc, ◌+◌, ◌<◌}
use mathlib.Core.Path.{◌≡◌, refl, sym, ◌∙◌, subst}
use mathlib.Core.Bool.{Bool, true, false, ◌||◌, true≢false}
use mathlib.Core.List.{List, [], ◌∷◌}
use mathlib.Core.Option.{none, some}
use mathlib.Core.Logic.{◌⊎◌, inl, inr, ⊎_map}
use native.Mathlib.Omega.{arith}
use lib.IntN.{ℤ}
use lib.ListN.{length, get_or}
use lib.Dec.{leb, eqb}
use borrow.Author.Tests.{leb-true, le-leb, eq-eqb, ne_eqb}
use Rattle.lambdamix.specs.Limits.{max_nodes, max_height}
use Rattle.lambdamix.specs.Script.{Script, input_count, root}
use Rattle.lambdamix.specs.Term.{Former, arity, tree}
use Rattle.lambdamix.specs.Types.{D}
use Rattle.lambdamix.specs.Typing.{Context, bind, type_at_by, type_at, input_type_by, input_type, context_from, input_context, ◌∣◌⊢◌∶◌, Const, Var, Lift}
use Rattle.lambdamix.specs.Typing.{AbstrDyn, Dyn, AllDynamic, nil_dyn, cons_dyn}
use Rattle.lambdamix.specs.Code.{Code, Codes, lit, ref, fn, form, nil_c, cons_c, size, code_height, fits, last_node, written}
use Rattle.lambdamix.specs.Refusal.{or_else}
use Rattle.lambdamix.specs.Structure.{member, structure_refusal}
use Rattle.lambdamix.specs.Demand.{DynamicInput}
use Rattle.lambdamix.proofs.Tests.{and_both}
use Rattle.lambdamix.proofs.Structure.{typed_scope}
use Rattle.lambdamix.proofs.WrittenTree.{written_term, written_terms, WellFormed, formed_lit, formed_ref, formed_fn, formed_form, AllWellFormed}
use Rattle.lambdamix.proofs.WrittenTree.{formed_nil, formed_cons, written_tree}
use Rattle.lambdamix.proofs.WrittenUses.{written_uses}
use Rattle.lambdamix.proofs.WrittenHeight.{written_height}

-- every name is a late input's, or has a binder in the code or among the open names; every form has as many children as it
-- takes
mutual
  pub data Closed (s : Script) : List ℕ → Code → Type 0 where
    closed_lit : {xs : List ℕ} {z : ℤ} → Closed s xs (lit z)
    closed_ref : {xs : List ℕ} {x : ℕ} → DynamicInput s x ⊎ (member x xs ≡ true) → Closed s xs (ref x)
    closed_fn : {xs : List ℕ} {x : ℕ} {c : Code} → Closed s (x ∷ xs) c → Closed s xs (fn x c)
    closed_form :
        {xs : List ℕ} {f : Former} {cs : Codes} {n : ℕ} → arity f ≡ n → AllClosed s xs cs n → Closed s xs (form f cs)

  -- this many pieces
  pub data AllClosed (s : Script) : List ℕ → Codes → ℕ → Type 0 where
    closed_nil : {xs : List ℕ} → AllClosed s xs nil_c 0
    closed_cons :
        {xs : List ℕ} {c : Code} {cs : Codes} {n : ℕ} → Closed s xs c → AllClosed s xs cs n →
        AllClosed s xs (cons_c c cs) (suc n)

mutual
  pub closed_formed : {s : Script} {xs : List ℕ} {c : Code} → Closed s xs c → WellFormed c
  closed_formed closed_lit = formed_lit
  closed_formed (closed_ref h) = formed_ref
  closed_formed (closed_fn d) = formed_fn (closed_formed d)
  closed_formed (closed_form {cs} e ds) = formed_form (subst (AllWellFormed cs) (sym e) (all_closed_formed ds))

  all_closed_formed : {s : Script} {xs : List ℕ} {cs : Codes} {n : ℕ} → AllClosed s xs cs n → AllWellFormed cs n
  all_closed_formed closed_nil = formed_nil
  all_closed_formed (closed_cons d ds) = formed_cons (closed_formed d) (all_closed_formed ds)

-- an input's name has the input's type
input_typed :
    (k : ℕ) (ts : List ℕ) (j x : ℕ) → x ≡ k + j → j < length ts → type_at (context_from k ts) x ≡ some (input_type (get_or ts j 0))
unfolding context_from type_at type_at_by
input_typed k [] j x e l = absurd (omega arith)
input_typed k (t ∷ ts) zero x e l = rw (eq-eqb k x (omega arith))
input_typed k (t ∷ ts) (suc j) x e l = rw (ne_eqb k x (omega arith)) (input_typed (suc k) ts j x (omega arith) (omega arith))

dynamic_typed : (s : Script) (x : ℕ) → DynamicInput s x → type_at (input_context s) x ≡ some D
unfolding input_context input_count input_type input_type_by
dynamic_typed s x l = input_typed 0 s.inputs x x (omega arith) l.input ∙ rw l.dynamic

-- a context with these names in front, as dynamic ones
unfoldable pub opened : List ℕ → Context → Context
opened [] Γ = Γ
opened (x ∷ xs) Γ = bind x D (opened xs Γ)

opened_typed :
    (xs : List ℕ) (Γ : Context) (x : ℕ) → (type_at Γ x ≡ some D) ⊎ (member x xs ≡ true) → type_at (opened xs Γ) x ≡ some D
unfolding opened type_at type_at_by member
opened_typed [] Γ x (inl e) = e
opened_typed [] Γ x (inr e) = absurd (true≢false (sym e))
opened_typed (y ∷ xs) Γ x h = go (eqb y x) (λ r. opened_typed xs Γ x r) h
  where
    go :
        (b : Bool) → ((type_at Γ x ≡ some D) ⊎ (member x xs ≡ true) → type_at (opened xs Γ) x ≡ some D) →
        (type_at Γ x ≡ some D) ⊎ ((b || member x xs) ≡ true) → type_at_by b D (type_at (opened xs Γ) x) ≡ some D
    go true r h = refl
    go false r h = r h

-- The tree of closed code is dynamic. It has no static function, so any script's listed types will do.
mutual
  unfolding written_term opened

  pub closed_dynamic :
      {s : Script} {xs : List ℕ} {c : Code} (w : Script) (k : ℕ) → Closed s xs c →
      w ∣ opened xs (input_context s) ⊢ written_term k c ∶ D
  closed_dynamic w k closed_lit = Lift Const
  closed_dynamic {s} {xs} w k (closed_ref {x} h) =
      Var (opened_typed xs (input_context s) x (⊎_map (dynamic_typed s x) (λ m. m) h))
  closed_dynamic w k (closed_fn d) = AbstrDyn (closed_dynamic w k d)
  closed_dynamic w k (closed_form e ds) = Dyn e (all_closed_dynamic w k ds)

  all_closed_dynamic :
      {s : Script} {xs : List ℕ} {cs : Codes} {n : ℕ} (w : Script) (k : ℕ) → AllClosed s xs cs n →
      AllDynamic w (opened xs (input_context s)) (written_terms k cs) n
  all_closed_dynamic w k closed_nil = nil_dyn
  all_closed_dynamic w k (closed_cons {c} d ds) = cons_dyn (closed_dynamic w k d) (all_closed_dynamic w (suc (last_node k c)) ds)

pub written_dynamic :
    {c : Code} (s : Script) → Closed s [] c →
    written s c ∣ input_context (written s c) ⊢ tree (written s c) (root (written s c)) ∶ D
unfolding opened input_context written
written_dynamic {c} s d = rw (written_tree s (closed_formed d)) (closed_dynamic (written s c) 0 d)

-- Where 26 does not hold, the written script passes refusals 6 to 8 and its root is dynamic.
pub written_accepted :
    {c : Code} (s : Script) → Closed s [] c → fits c ≡ true →
    (structure_refusal (written s c) ≡ none)
    × (written s c ∣ input_context (written s c) ⊢ tree (written s c) (root (written s c)) ∶ D)
unfolding structure_refusal or_else fits
written_accepted {c} s d f =
    let w = closed_formed d in
    let low = (and_both (leb (size c) max_nodes) _ f).1 in
    let r = written_dynamic s d in
    (rw (written_uses s w, written_height s w (le-leb (code_height c) max_height (omega (arith, leb-true, low))), typed_scope (written s c) r), r)
