-- The laws of hexadecimal.
use mathlib.Core.Path.{◌≡◌, refl, sym, ap, ap₂, ◌∙◌}
use mathlib.Core.Bool.{Bool, true, false, ◌&&◌, cond}
use mathlib.Core.List.{List, [], ◌∷◌, ◌++◌}
use Prim.Native.Nat.{ℕ, zero, suc, ◌+◌, ◌-◌, ◌*◌, ◌/◌, ◌%◌, ◌<◌, ◌≤◌}
use native.Mathlib.Numerals.{add-one}
use native.Mathlib.Omega.{arith}
use lib.Dec.{ltb}
use lib.ListN.{length, get_or, take, drop, set}
use lib.Seq.{take-suc, length-take-le}
use borrow.Author.Tests.{lt-ltb, le-ltb, ltb-true, ltb-false}
use Rattle.basics.proofs.BoolLaws.{both}
use Rattle.text.specs.Promises.{Puts}
use Rattle.text.proofs.Putting.{puts_after, puts_byte}
use Rattle.hexadecimal.specs.Hex.{hex_digit, hex, digit_value, unhex, all_bytes}

-- ---- a digit
pub low_digit : (d : ℕ) → d < 10 → 48 + d ≡ hex_digit d
low_digit d h = sym (ap (λ b. cond b (48 + d) (97 + (d - 10))) (lt-ltb d 10 h))

pub high_digit : (d : ℕ) → 10 ≤ d → 97 + (d - 10) ≡ hex_digit d
high_digit d h = sym (ap (λ b. cond b (48 + d) (97 + (d - 10))) (le-ltb d 10 h))

-- ---- one byte more
pub hex_snoc : (bs : List ℕ) (b : ℕ) → hex (bs ++ (b ∷ [])) ≡ hex bs ++ (hex_digit (b / 16) ∷ hex_digit (b % 16) ∷ [])
unfolding hex
hex_snoc [] b = refl
hex_snoc (x ∷ bs) b = ap {B = List ℕ} (λ l. hex_digit (x / 16) ∷ hex_digit (x % 16) ∷ l) (hex_snoc bs b)

pub hex_length : (bs : List ℕ) → length (hex bs) ≡ 2 * length bs
unfolding hex
hex_length [] = refl
hex_length (b ∷ bs) = omega (arith, hex_length bs)

-- Of the first i bytes.
pub hex_taken : (bytes : List ℕ) (i : ℕ) → i ≤ length bytes → length (hex (take i bytes)) ≡ 2 * i
hex_taken bytes i h = hex_length (take i bytes) ∙ ap (λ (n : ℕ). 2 * n) (length-take-le i bytes h)

pub put_turn : (l m bytes : List ℕ) (start next i : ℕ) → i < length bytes → Puts l start (hex (take i bytes)) m next
    → Puts l start (hex (take (i + 1) bytes)) (set (set m next (hex_digit (get_or bytes i 0 / 16))) (next + 1) (hex_digit (get_or bytes i 0 % 16))) (next + 2)
put_turn l m bytes start next i h p =
    let b = get_or bytes i 0 in
    let two : next + 1 + 1 ≡ next + 2 = omega arith in
    let q = puts_after p (puts_after (puts_byte m next (hex_digit (b / 16))) (puts_byte (set m next (hex_digit (b / 16))) (next + 1) (hex_digit (b % 16)))) in
    rw (add-one i, take-suc bytes i 0 h, hex_snoc (take i bytes) b, ← two) q

-- ---- read back
-- What follows the digits of n bytes are the digits of the bytes that follow.
pub hex_rest : (xs bs t : List ℕ) → hex xs ++ t ≡ hex bs → t ≡ hex (drop (length xs) bs)
unfolding hex
hex_rest [] bs t e = e
hex_rest (x ∷ xs) [] t e = absurd (omega (arith, ap (λ (l : List ℕ). length l) e))
hex_rest (x ∷ xs) (b ∷ bs) t e = hex_rest xs bs t (ap (λ (l : List ℕ). drop 2 l) e)

-- The first two of some digits.
pub hex_first : (bs : List ℕ) (c : ℕ) (t : List ℕ) → all_bytes bs ≡ true → c ∷ t ≡ hex bs
    → (b : ℕ) × (b < 256) × (c ≡ hex_digit (b / 16)) × (get_or t 0 0 ≡ hex_digit (b % 16)) × (0 < length t)
unfolding hex all_bytes
hex_first [] c t a e = absurd (omega (arith, ap (λ (l : List ℕ). length l) e))
hex_first (b ∷ bs) c t a e =
    let d : t ≡ hex_digit (b % 16) ∷ hex bs = ap (λ (l : List ℕ). drop 1 l) e in (
      b,
      ltb-true b 256 (both (ltb b 256) (all_bytes bs) a).0,
      ap (λ (l : List ℕ). get_or l 0 0) e,
      ap (λ (l : List ℕ). get_or l 0 0) d,
      omega (arith, ap (λ (l : List ℕ). length l) d),
    )

pub all_drop : (n : ℕ) (bs : List ℕ) → all_bytes bs ≡ true → all_bytes (drop n bs) ≡ true
unfolding all_bytes
all_drop zero bs a = a
all_drop (suc n) [] a = a
all_drop (suc n) (b ∷ bs) a = all_drop n bs (both (ltb b 256) (all_bytes bs) a).1

pub all_snoc : (bs : List ℕ) (b : ℕ) → all_bytes bs ≡ true → b < 256 → all_bytes (bs ++ (b ∷ [])) ≡ true
unfolding all_bytes
all_snoc [] b a h = ap (λ v. v && true) (lt-ltb b 256 h)
all_snoc (x ∷ bs) b a h = let p = both (ltb x 256) (all_bytes bs) a in ap₂ ◌&&◌ p.0 (all_snoc bs b p.1 h)

-- ---- bytes read back
digit_value_lem : (d : ℕ) → digit_value (hex_digit d) ≡ d
digit_value_lem d = go (ltb d 10) refl
  where
    go : (b : Bool) → ltb d 10 ≡ b → digit_value (hex_digit d) ≡ d
    go true q =
        let l = ltb-true d 10 q in
        ap digit_value (sym (low_digit d l)) ∙ ap (λ b. cond b (48 + d - 48) (48 + d - 97 + 10)) (lt-ltb (48 + d) 97 (omega arith)) ∙ omega arith
    go false q =
        let l = ltb-false d 10 q in
        ap digit_value (sym (high_digit d l)) ∙ ap (λ b. cond b (97 + (d - 10) - 48) (97 + (d - 10) - 97 + 10)) (le-ltb (97 + (d - 10)) 97 (omega arith)) ∙ omega arith

pub unhex_hex : (bs : List ℕ) → unhex (hex bs) ≡ bs
unfolding hex unhex
unhex_hex [] = refl
unhex_hex (b ∷ bs) =
    let e : b / 16 * 16 + b % 16 ≡ b = omega arith in
    ap₂ {C = List ℕ} (λ x l. x ∷ l) (ap₂ (λ (x y : ℕ). x * 16 + y) (digit_value_lem (b / 16)) (digit_value_lem (b % 16)) ∙ e) (unhex_hex bs)
