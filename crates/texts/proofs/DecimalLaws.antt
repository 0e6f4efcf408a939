-- The laws of numbers in a text: a number and its digits say each other.
use mathlib.Core.Path.{◌≡◌, refl, sym, ap, ap₂, ◌∙◌}
use mathlib.Core.Bool.{Bool, true, false, ◌&&◌, cond}
use mathlib.Core.Logic.{◌≢◌, by_cases}
use mathlib.Core.List.{List, [], ◌∷◌, ◌++◌}
use Rattle.std.specs.Prelude.{Option, None, Some}
use Prim.Native.Nat.{ℕ, zero, suc, ◌+◌, ◌-◌, ◌*◌, ◌/◌, ◌%◌, ◌^◌, ◌<◌, ◌≤◌}
use native.Mathlib.Nat.{pow-suc}
use native.Mathlib.Decide.{dec_lt}
use native.Mathlib.Omega.{arith}
use lib.ListN.{length, get_or, take, drop, length-append, take-append-drop, get_or-append}
use lib.Seq.{take-suc, take-length, get_or_at}
use borrow.Author.Tests.{lt-ltb, le-ltb, ltb-true}
use Rattle.rules.specs.Text.{byte}
use Rattle.rules.specs.Bytes.{same}
use Rattle.rules.specs.Decimal.{decimal_within, decimal, value_from, value, fits}
use Rattle.texts.specs.Row.{number_in}
use Rattle.basics.proofs.BoolLaws.{both}
use Rattle.basics.proofs.BytesLaws.{same_exactly}

-- ---- the digits of a number
-- Any two bounds above the number give the same digits.
within : (a b n : ℕ) → n < a → n < b → decimal_within a n ≡ decimal_within b n
unfolding decimal_within
within zero b n h l = absurd (omega arith)
within (suc a) zero n h l = absurd (omega arith)
within (suc a) (suc b) n h l =
    by_cases (dec_lt n 10)
    (λ s. rw (lt-ltb n 10 s))
    (λ s. rw (le-ltb n 10 (omega arith), within a b (n / 10) (omega arith) (omega arith)))

pub decimal_one : (n : ℕ) → n < 10 → decimal n ≡ (byte "0" + n) ∷ []
unfolding decimal decimal_within
decimal_one n h = rw (lt-ltb n 10 h)

-- The last digit stands after those of the number without it.
pub decimal_more : (n : ℕ) → 10 ≤ n → decimal n ≡ decimal (n / 10) ++ ((byte "0" + n % 10) ∷ [])
unfolding decimal decimal_within
decimal_more n h = rw (le-ltb n 10 h, within n (suc (n / 10)) (n / 10) (omega arith) (omega arith))

-- What holds of the numbers of one digit, and of a number if of the one without its last digit, holds of all.
by_digits : (P : ℕ → Type 0) → ((n : ℕ) → n < 10 → P n) → ((n : ℕ) → 10 ≤ n → P (n / 10) → P n) → (n : ℕ) → P n
by_digits P one more n = go (suc n) n (omega arith)
  where
    go : (bound n : ℕ) → n < bound → P n
    go zero n h = absurd (omega arith)
    go (suc bound) n h = by_cases (dec_lt n 10) (one n) (λ s. more n (omega arith) (go bound (n / 10) (omega arith)))

-- ---- the number that digits say
-- The later digits go on from what the earlier say.
value_append : (k : ℕ) (s t : List ℕ) → value_from k (s ++ t) ≡ value_from (value_from k s) t
unfolding value_from
value_append k [] t = refl
value_append k (d ∷ s) t = value_append (k * 10 + (d - byte "0")) s t

pub value_snoc : (ds : List ℕ) (d : ℕ) → value (ds ++ (d ∷ [])) ≡ value ds * 10 + (d - byte "0")
unfolding value value_from
value_snoc ds d = value_append 0 ds (d ∷ [])

-- No digit makes it less.
value_grows : (k : ℕ) (ds : List ℕ) → k ≤ value_from k ds
unfolding value_from
value_grows k [] = omega arith
value_grows k (d ∷ ds) = omega (arith, value_grows (k * 10 + (d - byte "0")) ds)

-- The first bytes say no more than all.
pub value_prefix : (i : ℕ) (ds : List ℕ) → value (take i ds) ≤ value ds
unfolding value
value_prefix i ds =
    let whole = ap (value_from 0) (sym (take-append-drop i ds)) ∙ value_append 0 (take i ds) (drop i ds) in
    omega (arith, whole, value_grows (value (take i ds)) (drop i ds))

-- A number is said by its digits.
pub value_decimal : (n : ℕ) → value (decimal n) ≡ n
unfolding value value_from
value_decimal =
    by_digits (λ n. value (decimal n) ≡ n)
    (λ n h. rw (decimal_one n h) (omega arith))
    (λ n h e. rw (decimal_more n h) (omega (arith, value_snoc (decimal (n / 10)) (byte "0" + n % 10))))

-- ---- what digits are
-- A byte that is a digit.
abbrev pub Digit : ℕ → Type 0
Digit b = (byte "0" ≤ b) × (b ≤ byte "9")

-- Digits as the sheet asks for them: one at least, each a digit, "no leading zero save `0`".
pub record Digits (ds : List ℕ) : Type 0 where
  pub some_digit : 0 < length ds
  pub each : (i : ℕ) → i < length ds → Digit (get_or ds i 0)
  pub leading : 1 < length ds → get_or ds 0 0 ≢ byte "0"

-- Digits that do not begin with zero, and one more.
digits_snoc : (ds : List ℕ) (d : ℕ) → Digits ds → get_or ds 0 0 ≢ byte "0" → Digit d → Digits (ds ++ (d ∷ []))
digits_snoc ds d r first h =
    let longer : length (ds ++ (d ∷ [])) ≡ length ds + 1 = length-append ds (d ∷ []) in
    record {
      some_digit = omega arith;
      each = λ i l.
          by_cases (dec_lt i (length ds))
          (λ s. rw (get_or-append ds (d ∷ []) 0 i s) (r.each i s))
          (λ s. rw (get_or_at ds d [] 0 i (omega arith)) h);
      leading = λ l. rw (get_or-append ds (d ∷ []) 0 0 r.some_digit) first;
    }

-- A number's digits are as asked, and begin with zero only if it is zero.
decimal_leading : (n : ℕ) → Digits (decimal n) × (0 < n → get_or (decimal n) 0 0 ≢ byte "0")
decimal_leading =
    by_digits (λ n. Digits (decimal n) × (0 < n → get_or (decimal n) 0 0 ≢ byte "0"))
    (λ n h. rw (decimal_one n h) (one n h, λ l e. omega arith))
    (λ n h e.
    rw (decimal_more n h) (
      digits_snoc (decimal (n / 10)) (byte "0" + n % 10) e.0 (e.1 (omega arith)) (omega arith, omega arith),
      λ l. rw (get_or-append (decimal (n / 10)) _ 0 0 e.0.some_digit) (e.1 (omega arith)),
    ))
  where
    one : (n : ℕ) → n < 10 → Digits ((byte "0" + n) ∷ [])
    one n h = record { some_digit = omega arith; each = only; leading = λ l. absurd (omega arith) }
      where
        only : (i : ℕ) → i < 1 → Digit (get_or ((byte "0" + n) ∷ []) i 0)
        only zero l = (omega arith, omega arith)
        only (suc i) l = absurd (omega arith)

pub decimal_digits : (n : ℕ) → Digits (decimal n)
decimal_digits n = (decimal_leading n).0

-- One more digit after those of a number other than zero.
decimal_snoc : (ds : List ℕ) (d : ℕ) → decimal (value ds) ≡ ds → 0 < value ds → Digit d → decimal (value (ds ++ (d ∷ []))) ≡ ds ++ (d ∷ [])
decimal_snoc ds d e h l =
    let n = value (ds ++ (d ∷ [])) in
    let v : n ≡ value ds * 10 + (d - byte "0") = value_snoc ds d in
    let before : n / 10 ≡ value ds = omega arith in
    let last : byte "0" + n % 10 ≡ d = omega arith in
    decimal_more n (omega arith) ∙ ap₂ {C = List ℕ} (λ s x. s ++ (x ∷ [])) (ap decimal before ∙ e) last

-- Digits are those of the number that they say.
pub digits_decimal : (ds : List ℕ) → Digits ds → decimal (value ds) ≡ ds
unfolding value value_from
digits_decimal [] r = absurd (omega arith)
digits_decimal (d ∷ ds) r = rw take-length at (front (length ds) (omega arith))
  where
    front : (j : ℕ) → j < length (d ∷ ds) → decimal (value (take (suc j) (d ∷ ds))) ≡ take (suc j) (d ∷ ds)
    front zero h =
        let l : Digit d = r.each 0 h in
        let e : byte "0" + value (d ∷ []) ≡ d = omega arith in
        decimal_one (value (d ∷ [])) (omega arith) ∙ ap {B = List ℕ} (λ x. x ∷ []) e
    front (suc j) h =
        let more : value (d ∷ []) ≤ value (d ∷ take j ds) = value_grows (value (d ∷ [])) (take j ds) in
        let l : Digit d = r.each 0 (omega arith) in
        let first : d ≢ byte "0" = r.leading (omega arith) in
        rw (take-suc ds j 0 (omega arith)) (decimal_snoc (d ∷ take j ds) (get_or ds j 0) (front j (omega arith)) (omega arith) (r.each (suc j) h))

-- No more digits than the power of ten above the number has zeros.
pub decimal_length : (k n : ℕ) → n < 10 ^ suc k → length (decimal n) ≤ suc k
decimal_length zero n h = rw (decimal_one n h) (omega arith)
decimal_length (suc k) n h =
    let l : n < 10 ^ suc k * 10 = rw (pow-suc 10 (suc k)) at h in
    by_cases (dec_lt n 10)
    (λ s. rw (decimal_one n s) (omega arith))
    (λ s. rw (decimal_more n (omega arith), length-append) (omega (arith, decimal_length k (n / 10) (omega arith))))

-- ---- "at most 2^32 − 1": digits read back as the number, and no other bytes do
pub number_digits : (n : ℕ) → n < 2 ^ 32 → number_in (decimal n) ≡ Some n
unfolding number_in fits
number_digits n h = rw (value_decimal n, (same_exactly (decimal n) (decimal n)).1 refl, lt-ltb n (2 ^ 32) h)

pub number_only : (ds : List ℕ) (n : ℕ) → number_in ds ≡ Some n → (ds ≡ decimal n) × (n < 2 ^ 32)
unfolding number_in fits
number_only ds n e = go (same (decimal (value ds)) ds && fits (value ds)) refl e
  where
    go : (v : Bool) → same (decimal (value ds)) ds && fits (value ds) ≡ v → cond v (Some (value ds)) None ≡ Some n → (ds ≡ decimal n) × (n < 2 ^ 32)
    go true t e =
        let s : value ds ≡ n = cc in
        let p = both (same (decimal (value ds)) ds) (fits (value ds)) t in
        rw (← s) (sym ((same_exactly (decimal (value ds)) ds).0 p.0), ltb-true (value ds) (2 ^ 32) p.1)
    go false t e = let z : ◌≡◌ {A = ℕ} 0 1 = cc in absurd (omega arith)

-- So digits are read as what they say.
pub number_right : (ds : List ℕ) → Digits ds → value ds < 2 ^ 32 → number_in ds ≡ Some (value ds)
number_right ds r h = ap number_in (sym (digits_decimal ds r)) ∙ number_digits (value ds) h

-- ---- why bytes are no number
-- No number that fits has them for its digits.
pub number_none : (ds : List ℕ) → ((n : ℕ) → ds ≡ decimal n → n < 2 ^ 32 → ⊥) → number_in ds ≡ None
number_none ds h = go (number_in ds) refl
  where
    go : (o : Option ℕ) → number_in ds ≡ o → number_in ds ≡ None
    go None e = e
    go (Some n) e =
        let r = number_only ds n e in
        absurd (h n r.0 r.1)

-- They are not digits.
not_digits : (ds : List ℕ) → (Digits ds → ⊥) → number_in ds ≡ None
not_digits ds h = number_none ds (λ n e l. h (rw e (decimal_digits n)))

pub number_empty : number_in [] ≡ None
number_empty = not_digits [] (λ r. omega arith)

pub number_not_digit : (ds : List ℕ) (i : ℕ) → i < length ds → (Digit (get_or ds i 0) → ⊥) → number_in ds ≡ None
number_not_digit ds i l h = not_digits ds (λ r. h (r.each i l))

pub number_leading : (ds : List ℕ) → 1 < length ds → get_or ds 0 0 ≡ byte "0" → number_in ds ≡ None
number_leading ds l e = not_digits ds (λ r. r.leading l e)

-- The first of them already say too much.
pub number_large : (ds : List ℕ) (i : ℕ) → 2 ^ 32 ≤ value (take i ds) → number_in ds ≡ None
number_large ds i h = number_none ds (λ n e l. omega (arith, value_prefix i ds, ap value e ∙ value_decimal n))
