-- A number's digits, drawn from a fraction of a power of ten: each round takes the whole part, and goes on with ten times the rest. Assumes nothing.
use Prim.Native.Nat.{ℕ, zero, suc, ◌+◌, ◌*◌, ◌-◌, ◌/◌, ◌%◌, ◌^◌, ◌≤◌, ◌<◌}
use mathlib.Core.Path.{◌≡◌, refl, sym, ap, ◌∙◌}
use mathlib.Core.List.{List, [], ◌∷◌, ◌++◌}
use native.Mathlib.Nat.{mul_assoc, mul_left_comm, add-mul, mul-le-mul, lt_of_mul-lt-mul_right, pow-succ'}
use native.Mathlib.Omega.{arith}
use lib.ListN.{length, set, length-append}
use Rattle.lambdamix.specs.Text.{digits}
use Rattle.text.specs.declared.Decimal.{Decimal}
use Rattle.text.specs.Places.{Put}
use Rattle.text.specs.Decimals.{most_rounds, PutNumber, PutLong}
use Rattle.text.specs.Drawing.{NextDigit, passed_over, stands, one, Fraction, Draws}
use Rattle.text.proofs.Digits.{one_digit, last_digit, digits_within}
use Rattle.text.proofs.Writing.{put_none, put_last}

-- ---- the digits passed so far: none while all are zeros

unfoldable pub passed : ℕ → List ℕ
passed zero = []
passed (suc q) = digits (suc q)

-- one digit more, and the number's own digits are those that it ends with
next_digits : (q d : ℕ) → d < 10 → digits (10 * q + d) ≡ passed q ++ ((48 + d) ∷ [])
unfolding passed
next_digits zero d h = let e : 10 * 0 + d ≡ d = omega arith in ap digits e ∙ one_digit d h
next_digits (suc q) d h =
    let e : (10 * suc q + d) / 10 ≡ suc q = omega arith in
    let f : (10 * suc q + d) % 10 ≡ d = omega arith in
    rw (last_digit (10 * suc q + d) (omega arith), e, f)

some_digits : (q : ℕ) → 1 ≤ q → passed q ≡ digits q
unfolding passed
some_digits zero h = absurd (omega arith)
some_digits (suc q) h = refl

-- no number has no digits
digits_stand : (x : ℕ) → 1 ≤ length (digits x)
digits_stand x =
    let e : x ≡ 10 * (x / 10) + x % 10 = omega arith in
    omega (arith, ap length (ap digits e ∙ next_digits (x / 10) (x % 10) (omega arith)), length-append (passed (x / 10)) ((48 + x % 10) ∷ []))

-- so where no byte stands, none but zeros were passed, and where one stands or comes, some other digit was
none_passed : (q : ℕ) → 0 ≡ length (passed q) → q ≡ 0
unfolding passed
none_passed zero h = refl
none_passed (suc q) h = absurd (omega (arith, digits_stand (suc q)))

some_passed : (q d n : ℕ) → n ≡ length (passed q) → (d ≡ 0 → 1 ≤ n) → 1 ≤ 10 * q + d
unfolding passed
some_passed zero zero n e s = absurd (omega (arith, s refl))
some_passed zero (suc d) n e s = omega arith
some_passed (suc q) d n e s = omega arith

-- ---- a round

-- the whole part of a fraction is a digit, and ten times the rest is the fraction of what follows
pub record Drawn (t k x : ℕ) : Type 0 where
  pub rest : ℕ
  pub digit : t / one < 10
  pub whole : x ≡ t / one * 10 ^ suc k + rest
  pub fraction : Fraction (t % one * 10) k rest

pub drawn : (t k x : ℕ) → Fraction t (suc k) x → Drawn t k x
drawn t k x f =
    let d : ℕ = t / one in
    let u : ℕ = t % one in
    let p : ℕ = 10 ^ suc k in
    let parts : t * p ≡ one * (d * p) + u * p =
    ap (λ (v : ℕ). v * p) (let e : t ≡ one * d + u = omega arith in e)
    ∙ (add-mul (one * d) u p ∙ ap (λ (v : ℕ). v + u * p) (mul_assoc one d p)) in
    let under : (u + 1) * p ≤ one * p =
    mul-le-mul (let h : u + 1 ≤ one = omega arith in h) (let h : p ≤ p = omega arith in h) in
    let within : x < 10 * p = rw (pow-succ' 10 (suc k)) at f.below in
    let again : u * 10 * 10 ^ k ≡ u * p = mul_assoc u 10 (10 ^ k) ∙ ap (λ (v : ℕ). u * v) (sym (pow-succ' 10 k)) in
    let fits : d * p ≤ x = omega (arith, f.high, parts) in
    record {
      rest = x - d * p;
      digit = lt_of_mul-lt-mul_right p (let h : d * p < 10 * p = omega arith in h);
      whole = omega arith;
      fraction = record {
        below = omega (arith, f.low, parts, add-mul u 1 p);
        low = omega (arith, f.low, parts, again);
        high = omega (arith, f.high, parts, again);
      };
    }

-- ---- the digits so far

-- x, of which some digits stand, and the fraction of the rest, of which k digits follow the next
pub record Standing (x t k : ℕ) (before after : List ℕ) (n : ℕ) : Type 0 where
  pub first : ℕ
  pub rest : ℕ
  pub whole : x ≡ first * 10 ^ suc k + rest
  pub fraction : Fraction t k rest
  pub put : Put (passed first) before after n

-- one digit more
put_next_digit :
    (q d : ℕ) {x y z : List ℕ} {n m : ℕ} → d < 10 → Put (passed q) x y n → NextDigit d n y z m →
    Put (passed (10 * q + d)) x z m
unfolding passed
put_next_digit q d h p (passed_over e l) =
    let z : q ≡ 0 = none_passed q (sym l ∙ p.counted) in
    let y : 10 * q + d ≡ q = omega arith in
    rw y p
put_next_digit q d h p (stands s e) =
    let g : 1 ≤ 10 * q + d = some_passed q d _ p.counted s in
    rw (some_digits (10 * q + d) g, next_digits q d h) (put_last (48 + d) p e)

pub next_stands :
    {x t k : ℕ} {b y z : List ℕ} {n m : ℕ} → Standing x t (suc k) b y n → NextDigit (t / one) n y z m →
    Standing x (t % one * 10) k b z m
next_stands {x} {t} {k} s e =
    let g : Drawn t k s.rest = drawn t k s.rest s.fraction in
    let d : ℕ = t / one in
    record {
      first = 10 * s.first + d;
      rest = g.rest;
      whole = omega (
        arith,
        s.whole,
        g.whole,
        ap (λ (v : ℕ). s.first * v) (pow-succ' 10 (suc k)) ∙ mul_left_comm s.first 10 (10 ^ suc k),
        add-mul (10 * s.first) d (10 ^ suc k) ∙ ap (λ (v : ℕ). v + d * 10 ^ suc k) (mul_assoc 10 s.first (10 ^ suc k)),
      );
      fraction = g.fraction;
      put = put_next_digit s.first d g.digit s.put e;
    }

-- the last digit is put in any case
pub last_stands :
    {x t : ℕ} {b y z : List ℕ} {n : ℕ} → Standing x t 0 b y n → z ≡ set y n (48 + t / one) → Put (digits x) b z (n + 1)
last_stands {x} {t} s e =
    let f = s.fraction in
    let d : t / one ≡ s.rest = omega (arith, f.low, f.high) in
    let w : x ≡ 10 * s.first + s.rest = omega (arith, s.whole) in
    rw (w, next_digits s.first s.rest f.below) (put_last (48 + s.rest) s.put (rw d at e))

-- ---- in the loop: how many rounds are done, of how many

pub next_length : {d n m : ℕ} {x y : List ℕ} → NextDigit d n x y m → m ≤ n + 1
next_length (passed_over e l) = omega arith
next_length (stands s e) = omega arith

pub none_stands : {t x : ℕ} {y : List ℕ} (rounds : ℕ) → Fraction t rounds x → Standing x t (rounds - 0) y y 0
unfolding passed
none_stands {x} rounds f =
    let k : rounds - 0 ≡ rounds = omega arith in
    record { first = 0; rest = x; whole = omega arith; fraction = rw k f; put = put_none }

pub round_stands :
    {x t : ℕ} {b y z : List ℕ} {n m : ℕ} (rounds round : ℕ) → round < rounds → Standing x t (rounds - round) b y n →
    NextDigit (t / one) n y z m → Standing x (t % one * 10) (rounds - (round + 1)) b z m
round_stands rounds round h s e =
    let k : rounds - round ≡ suc (rounds - (round + 1)) = omega arith in
    next_stands (rw k at s) e

pub all_stand :
    {x t : ℕ} {b y z : List ℕ} {n : ℕ} (rounds round : ℕ) → rounds ≤ round → Standing x t (rounds - round) b y n →
    z ≡ set y n (48 + t / one) → Put (digits x) b z (n + 1)
all_stand rounds round h s e =
    let k : rounds - round ≡ 0 = omega arith in
    last_stands (rw k at s) e

-- ---- numbers of 32 bits

pub five_digits : (x : ℕ) → x < 100000 → Fraction (x * one / 10000 + 1) 4 x
five_digits x h = record { below = h; low = omega arith; high = omega arith }

pub ten_digits : (x : ℕ) → x < 4294967296 → Fraction (x * one / 1000000000 + 1) 9 x
ten_digits x h = record { below = omega arith; low = omega arith; high = omega arith }

pub put_number :
    {t k x : ℕ} {before after : List ℕ} {r : Decimal} → Draws t k before after r → k ≤ most_rounds → Fraction t k x →
    PutNumber (digits x) before after r
put_number {x} d h f = record { put = d.put x f; rounds = omega (arith, d.rounds) }

-- ---- and of up to 64 bits: one round more for each digit beyond

pub put_short :
    {x : ℕ} {before after : List ℕ} {r : Decimal} → PutNumber (digits x) before after r → PutLong x before after r
put_short p = record { put = p.put; rounds = λ k h. omega (arith, p.rounds) }

pub put_longer :
    {x : ℕ} {before y after : List ℕ} {r : Decimal} → PutLong (x / 10) before y r → 4294967296 ≤ x →
    after ≡ set y r.length (48 + x % 10) → PutLong x before after (record { length = r.length + 1; rounds = r.rounds + 1 })
put_longer {x} {r} p h e =
    record { put = rw (last_digit x (omega arith)) (put_last (48 + x % 10) p.put e); rounds = go }
  where
    go : (k : ℕ) → x < 4294967296 * 10 ^ k → r.rounds + 1 ≤ most_rounds + k
    go zero l = absurd (omega arith)
    go (suc k) l = omega (arith, p.rounds k (omega (arith, rw (pow-succ' 10 k) at l)))

-- A number of 64 bits has at most 20 digits, and takes at most 20 rounds.
module _ {x : ℕ} {before after : List ℕ} {r : Decimal} (p : PutLong x before after r) (h : x < 18446744073709551616) where
  pub long_length : r.length ≤ 20
  long_length = omega (arith, p.put.counted, digits_within 19 x (omega arith))

  pub long_rounds : r.rounds ≤ 20
  unfolding most_rounds
  long_rounds = omega (arith, p.rounds 10 (omega arith))
