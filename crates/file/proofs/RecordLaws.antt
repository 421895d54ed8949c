-- Records of a constant length, one after the other: the bytes of record j stand at size × j. Shown once for all kinds of
-- records, over a layout. Assumes nothing.
use Prim.Native.Nat.{ℕ, zero, suc, ◌+◌, ◌*◌, ◌<◌}
use mathlib.Core.Path.{◌≡◌, sym, ◌∙◌, subst}
use mathlib.Core.Bool.{true}
use mathlib.Core.List.{List, [], ◌∷◌}
use mathlib.Core.Option.{Option, none}
use native.Mathlib.Nat.{mul-zero, mul-suc}
use native.Mathlib.Omega.{arith}
use lib.ListN.{length, get_or, length-append}
use Rattle.lambdamix.specs.Refusal.{first_failing}
use Rattle.script.specs.File.{records, numbered}
use Rattle.script.specs.Refusals.{marked}
use Rattle.file.specs.Encodable.{AllBytes}
use Rattle.file.proofs.ByteLaws.{Stands, stands_left, stands_right, stands_both, stands_nil}
use Rattle.script.proofs.Numbered.{length_numbered, row_at_lem, numbered_whole}
use Rattle.script.proofs.RefusalLaws.{all_pass, passes}

-- a kind of records
pub record Layout (A : Type 0) : Type 1 where
  pub size : ℕ
  pub first : ℕ
  pub second : ℕ
  pub blank : A
  pub write : A → List ℕ
  pub read : List ℕ → ℕ → A
  pub Fits : A → Type 0
  pub sized : (x : A) → length (write x) ≡ size
  -- a record begins with its mark, is read as written if its parts fit, and is written as read if the mark is right
  pub begins : {bs : List ℕ} {o : ℕ} (x : A) → Stands bs o (write x) → marked first second bs o ≡ true
  pub reads : {bs : List ℕ} {o : ℕ} (x : A) → Fits x → Stands bs o (write x) → read bs o ≡ x
  pub writes : {bs : List ℕ} (o : ℕ) → AllBytes bs → marked first second bs o ≡ true → Stands bs o (write (read bs o))
  pub fits : {bs : List ℕ} (o : ℕ) → AllBytes bs → Fits (read bs o)

moved : {bs ys : List ℕ} {o m : ℕ} → o ≡ m → Stands bs o ys → Stands bs m ys
moved {bs} {ys} e s = subst (λ (n : ℕ). Stands bs n ys) e s

module _ {A : Type 0} (L : Layout A) where
  pub records_length : (xs : List A) → length (records L.write xs) ≡ L.size * length xs
  unfolding records
  records_length [] = sym (mul-zero L.size)
  records_length (x ∷ xs) =
      length-append (L.write x) (records L.write xs)
      ∙ omega (arith, L.sized x, records_length xs, mul-suc L.size (length xs))

  -- where the records stand, each stands at its place; and back
  record_stands :
      {bs : List ℕ} (o : ℕ) (xs : List A) → Stands bs o (records L.write xs)
      → (j : ℕ) → j < length xs → Stands bs (o + L.size * j) (L.write (get_or xs j L.blank))
  unfolding records
  record_stands o [] s j l = let z : ⊥ = omega arith in absurd z
  record_stands o (x ∷ xs) s zero l =
      moved (omega (arith, mul-zero L.size)) (stands_left (L.write x) (records L.write xs) s)
  record_stands o (x ∷ xs) s (suc j) l =
      moved (omega (arith, mul-suc L.size j))
      (record_stands (o + L.size) xs
      (stands_right (L.write x) (records L.write xs) s (o + L.size) (omega (arith, L.sized x))) j (omega arith))

  records_stand :
      {bs : List ℕ} (o : ℕ) (xs : List A)
      → ((j : ℕ) → j < length xs → Stands bs (o + L.size * j) (L.write (get_or xs j L.blank)))
      → Stands bs o (records L.write xs)
  unfolding records
  records_stand o [] h = stands_nil
  records_stand o (x ∷ xs) h =
      stands_both (L.write x) (records L.write xs) (moved (omega (arith, mul-zero L.size)) (h 0 (omega arith)))
      (o + L.size) (omega (arith, L.sized x))
      (records_stand (o + L.size) xs
      (λ j l. moved (omega (arith, mul-suc L.size j)) (h (suc j) (omega arith))))

  -- n records read from o on, and the first of them with a wrong mark
  abbrev pub read_from : List ℕ → ℕ → ℕ → List A
  read_from bs o n = numbered (λ j. L.read bs (o + L.size * j)) 0 n

  abbrev pub wrong_mark : List ℕ → ℕ → ℕ → Option ℕ
  wrong_mark bs o n = first_failing (λ j. marked L.first L.second bs (o + L.size * j)) 0 n

  -- records that stand at o and fit are read as they were written
  pub records_read :
      {bs : List ℕ} (o : ℕ) (xs : List A) → Stands bs o (records L.write xs)
      → ((j : ℕ) → j < length xs → L.Fits (get_or xs j L.blank)) → read_from bs o (length xs) ≡ xs
  records_read o xs s f =
      numbered_whole _ L.blank xs (λ j l. L.reads (get_or xs j L.blank) (f j l) (record_stands o xs s j l))

  -- and their marks are right
  pub records_marked :
      {bs : List ℕ} (o : ℕ) (xs : List A) → Stands bs o (records L.write xs) → wrong_mark bs o (length xs) ≡ none
  records_marked o xs s =
      all_pass _ (length xs) (λ j l. L.begins (get_or xs j L.blank) (record_stands o xs s j l))

  -- bytes with right marks are those of the records read there
  pub records_written :
      {bs : List ℕ} (o n : ℕ) → AllBytes bs → wrong_mark bs o n ≡ none → Stands bs o (records L.write (read_from bs o n))
  records_written {bs} o n all e =
      records_stand o (read_from bs o n)
      (λ j l.
      let k : j < n = omega (arith, length_numbered (λ j. L.read bs (o + L.size * j)) 0 n) in
      rw (row_at_lem (λ j. L.read bs (o + L.size * j)) n L.blank j k)
      (L.writes (o + L.size * j) all (passes _ n e j k)))

  -- and these fit
  pub records_fit :
      {bs : List ℕ} (o n : ℕ) → AllBytes bs → (j : ℕ) → j < length (read_from bs o n) → L.Fits (get_or (read_from bs o n) j L.blank)
  records_fit {bs} o n all j l =
      let k : j < n = omega (arith, length_numbered (λ j. L.read bs (o + L.size * j)) 0 n) in
      rw (row_at_lem (λ j. L.read bs (o + L.size * j)) n L.blank j k) (L.fits (o + L.size * j) all)
