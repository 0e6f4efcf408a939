-- A number, read and stored byte by byte.
use mathlib.Core.Path.{◌≡◌, refl, sym, ap, ap₂, ◌∙◌}
use mathlib.Core.List.{List, [], ◌∷◌, ◌++◌}
use Prim.Native.Nat.{ℕ, zero, suc, ◌+◌, ◌*◌, ◌/◌, ◌%◌, ◌^◌, ◌<◌, ◌≤◌}
use native.Mathlib.Nat.{pow-suc, div-one, div-div-eq-div-mul, mul_comm, lt_of_lt_of_le, pow-le-pow_right}
use native.Mathlib.Numerals.{add-one}
use native.Mathlib.Omega.{arith}
use lib.ListN.{length, take, set}
use lib.Dec.{lit≤}
use lib.Seq.{take-suc-set}
use Rattle.rules.specs.Bytes.{little, little_number}

-- One byte more of a number.
pub little_snoc : (w n : ℕ) → little (w + 1) n ≡ little w n ++ (n / 256 ^ w % 256 ∷ [])
unfolding little
little_snoc zero n = rw div-one
little_snoc (suc w) n =
    let e : suc w + 1 ≡ suc (w + 1) = omega arith in
    let q : n / 256 / 256 ^ w ≡ n / 256 ^ suc w = div-div-eq-div-mul n 256 (256 ^ w) ∙ ap (λ (m : ℕ). n / m) (mul_comm 256 (256 ^ w) ∙ sym (pow-suc 256 w)) in
    rw e (ap {B = List ℕ} (λ l. n % 256 ∷ l) (little_snoc w (n / 256) ∙ ap {B = List ℕ} (λ m. little w (n / 256) ++ (m % 256 ∷ [])) q))

-- The number whose lower bytes are these, and n its higher ones.
abbrev pub above : List ℕ → ℕ → ℕ
above [] n = n
above (b ∷ bs) n = b + 256 * above bs n

pub above_none : (bs : List ℕ) → above bs 0 ≡ little_number bs
unfolding little_number
above_none [] = refl
above_none (b ∷ bs) = ap (λ (m : ℕ). b + 256 * m) (above_none bs)

-- The last of them goes to the higher ones.
pub above_last : (bs : List ℕ) (b n : ℕ) → above (bs ++ b ∷ []) n ≡ above bs (n * 256 + b)
above_last [] b n = omega arith
above_last (x ∷ bs) b n = ap (λ (m : ℕ). x + 256 * m) (above_last bs b n)

-- A turn of `number`: at most three bytes read leave room for one more.
pub number_room : (n k : ℕ) → k ≤ 3 → n < 256 ^ k → n < 256 ^ 3
number_room n k l h = lt_of_lt_of_le h (pow-le-pow_right (lit≤ tt) l)

pub number_turn : (n b k : ℕ) → n < 256 ^ k → b < 256 → n * 256 + b < 256 ^ (k + 1)
number_turn n b k h l =
    let p : 256 ^ (k + 1) ≡ 256 ^ k * 256 = rw (add-one k) (pow-suc 256 k) in
    omega (arith, p)

-- A turn of `put_number`.
pub put_turn : (items : List ℕ) (i n rest : ℕ) → i < length items → take i items ≡ little i n → rest ≡ n / 256 ^ i
    → (take (i + 1) (set items i (rest % 256)) ≡ little (i + 1) n) × (rest / 256 ≡ n / 256 ^ (i + 1))
put_turn items i n rest h e r = (
  rw (add-one i) (take-suc-set items i (rest % 256) h)
      ∙ ap₂ (λ (l : List ℕ) (m : ℕ). l ++ (m % 256 ∷ [])) e r ∙ sym (little_snoc i n),
  ap (λ (m : ℕ). m / 256) r ∙ div-div-eq-div-mul n (256 ^ i) 256 ∙ ap (λ (m : ℕ). n / m) (sym (rw (add-one i) (pow-suc 256 i))),
)
