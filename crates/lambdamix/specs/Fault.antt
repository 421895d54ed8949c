-- Which nodes of a term are at fault: paper 01, "Marks", in terms of the judgement of Typing.antt and not of the checker. What
-- is said of a step's children is said once for all kinds. Assumes nothing.
use Rattle.std.specs.Prelude.{ℕ, ◌≤◌, ◌≡◌, false, List, [], ◌∷◌}
use Rattle.lambdamix.specs.Script.{Script}
use Rattle.lambdamix.specs.Term.{Term, Terms, nil_t, cons_t, const, var, lifted, lam, app, fixed, cond, op, dlam, dyn, node_of}
use Rattle.lambdamix.specs.Types.{Ty, D, ◌⇒◌, type_of, listed}
use Rattle.lambdamix.specs.Typing.{Context, bind, ◌∣◌⊢◌∶◌}
use Rattle.lambdamix.specs.Refusal.{Refusal}

-- a term with the types of its free names
pub record Part : Type 0 where
  pub context : Context
  pub term : Term

abbrev pub part : Context → Term → Part
part Γ e = record { context = Γ; term = e }

unfoldable pub parts_among : Context → Terms → List Part
parts_among Γ nil_t = []
parts_among Γ (cons_t e es) = part Γ e ∷ parts_among Γ es

-- the children of a step; to the body of a function its parameter is known
unfoldable pub parts : Script → Context → Term → List Part
parts s Γ (const i z) = []
parts s Γ (var i x) = []
parts s Γ (lifted i e) = part Γ e ∷ []
parts s Γ (lam i x p e) = part (bind x (type_of s p) Γ) e ∷ []
parts s Γ (app i e f) = part Γ e ∷ part Γ f ∷ []
parts s Γ (fixed i e) = part Γ e ∷ []
parts s Γ (cond i e f g) = part Γ e ∷ part Γ f ∷ part Γ g ∷ []
parts s Γ (op i o e f) = part Γ e ∷ part Γ f ∷ []
parts s Γ (dlam i x e) = part (bind x D Γ) e ∷ []
parts s Γ (dyn i f es) = parts_among Γ es

-- the rules derive some type
pub data HasType (s : Script) (Γ : Context) (e : Term) : Type 0 where
  has_type : {t : Ty} → s ∣ Γ ⊢ e ∶ t → HasType s Γ e

-- "all its children have types"
pub data AllTyped (s : Script) : List Part → Type 0 where
  all_typed : AllTyped s []
  and_typed : {p : Part} {ps : List Part} → HasType s p.context p.term → AllTyped s ps → AllTyped s (p ∷ ps)

-- "parameter t and body u give the function type from t to u, which must be listed; if it isn't, that is refusal 10 and the
-- function has no type"
pub data Unlisted (s : Script) : Context → Term → Type 0 where
  not_listed :
      {Γ : Context} {i x p : ℕ} {e : Term} {u : Ty} → s ∣ bind x (type_of s p) Γ ⊢ e ∶ u → listed s (type_of s p ⇒ u) ≡ false →
      Unlisted s Γ (lam i x p e)

-- The node i of a term has the fault n. 9: "A node is at fault if all its children have types and its own rule fails otherwise
-- than by refusal 10." 10: "a function's type isn't listed". A fault of a child is a fault in the term.
mutual
  pub data AtFault (s : Script) : Context → Term → ℕ → ℕ → Type 0 where
    own_9 :
        {Γ : Context} {e : Term} {i : ℕ} → node_of e ≡ i → AllTyped s (parts s Γ e) → ¬ HasType s Γ e → ¬ Unlisted s Γ e →
        AtFault s Γ e 9 i
    own_10 : {Γ : Context} {e : Term} {i : ℕ} → node_of e ≡ i → Unlisted s Γ e → AtFault s Γ e 10 i
    below : {Γ : Context} {e : Term} {n i : ℕ} → FaultAmong s (parts s Γ e) n i → AtFault s Γ e n i

  pub data FaultAmong (s : Script) : List Part → ℕ → ℕ → Type 0 where
    here : {p : Part} {ps : List Part} {n i : ℕ} → AtFault s p.context p.term n i → FaultAmong s (p ∷ ps) n i
    there : {p : Part} {ps : List Part} {n i : ℕ} → FaultAmong s ps n i → FaultAmong s (p ∷ ps) n i

-- "9 and 10: lowest node of either": f is one of the faults, and no fault stands at a lower node
pub record Lowest (Faults : ℕ → ℕ → Type 0) (f : Refusal) : Type 0 where
  pub fault : Faults f.number f.place
  pub lowest : (n i : ℕ) → Faults n i → f.place ≤ i
