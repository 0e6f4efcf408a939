-- The laws of numbers and lists of bytes.
use mathlib.Core.Path.{◌≡◌, refl, ap, ap₂, ◌∙◌}
use mathlib.Core.Bool.{Bool, true, false, ◌&&◌, false≢true}
use mathlib.Core.Logic.{◌↔◌}
use mathlib.Core.List.{List, [], ◌∷◌, ◌++◌}
use Prim.Native.Nat.{ℕ, zero, suc, ◌+◌, ◌*◌, ◌/◌, ◌%◌, ◌^◌, ◌<◌, ◌≤◌}
use native.Mathlib.Nat.{pow-suc, mul_comm, mul_assoc, lt_of_lt_of_le, pow-le-pow_right}
use native.Mathlib.Numerals.{add-one}
use native.Mathlib.Omega.{arith}
use lib.Dec.{eqb, lit≤}
use lib.ListN.{length, get_or, take, drop, length-take, length-drop}
use lib.Seq.{get_or-drop, drop-cons, drop-drop, take-add}
use borrow.Author.Tests.{eq-eqb, ne_eqb, eqb-true}
use Rattle.rules.specs.Bytes.{little, little_number, number_at, same}
use Rattle.basics.proofs.BoolLaws.{both}

-- Every number of the list is a byte.
abbrev pub AllBytes : List ℕ → Type 0
AllBytes bs = (i : ℕ) → get_or bs i 0 < 256

-- ---- parts of bytes are bytes
pub bytes_append : (s t : List ℕ) → AllBytes s → AllBytes t → AllBytes (s ++ t)
bytes_append [] t hs ht i = ht i
bytes_append (x ∷ s) t hs ht zero = hs 0
bytes_append (x ∷ s) t hs ht (suc i) = bytes_append s t (λ j. hs (suc j)) ht i

pub bytes_take : (n : ℕ) (s : List ℕ) → AllBytes s → AllBytes (take n s)
bytes_take zero s hs i = omega arith
bytes_take (suc n) [] hs i = omega arith
bytes_take (suc n) (x ∷ s) hs zero = hs 0
bytes_take (suc n) (x ∷ s) hs (suc i) = bytes_take n s (λ j. hs (suc j)) i

pub bytes_drop : (n : ℕ) (s : List ℕ) → AllBytes s → AllBytes (drop n s)
bytes_drop n s hs i = rw (get_or-drop n s i 0) (hs (n + i))

-- ---- a number in w bytes
-- It has w bytes.
pub little_length : (w n : ℕ) → length (little w n) ≡ w
unfolding little
little_length zero n = refl
little_length (suc w) n = ap suc (little_length w (n / 256))

pub little_bytes : (w n : ℕ) → AllBytes (little w n)
unfolding little
little_bytes zero n i = omega arith
little_bytes (suc w) n zero = omega arith
little_bytes (suc w) n (suc i) = little_bytes w (n / 256) i

-- A number that fits is read back.
pub little_number_lem : (w n : ℕ) → n < 256 ^ w → little_number (little w n) ≡ n
unfolding little little_number
little_number_lem zero n h = omega arith
little_number_lem (suc w) n h =
    let g : n < 256 ^ w * 256 = rw (pow-suc 256 w) at h in
    omega (arith, little_number_lem w (n / 256) (omega arith))

-- Bytes say a number that fits in as many.
pub number_lt : (bs : List ℕ) → AllBytes bs → little_number bs < 256 ^ length bs
unfolding little_number
number_lt [] h = omega arith
number_lt (b ∷ bs) h = rw (pow-suc 256 (length bs)) (omega (arith, h 0, number_lt bs (λ i. h (suc i))))

-- Bytes are those of the number that they say.
pub number_little : (bs : List ℕ) → AllBytes bs → little (length bs) (little_number bs) ≡ bs
unfolding little little_number
number_little [] h = refl
number_little (b ∷ bs) h =
    let l : b < 256 = h 0 in
    let low : (b + 256 * little_number bs) % 256 ≡ b = omega arith in
    let high : (b + 256 * little_number bs) / 256 ≡ little_number bs = omega arith in
    rw (low, high) (ap {B = List ℕ} (λ l. b ∷ l) (number_little bs (λ i. h (suc i))))

-- Bytes behind others count so many times more.
number_append : (bs ds : List ℕ) → little_number (bs ++ ds) ≡ little_number bs + 256 ^ length bs * little_number ds
unfolding little_number
number_append [] ds = omega arith
number_append (b ∷ bs) ds =
    let e : 256 ^ length bs * 256 * little_number ds ≡ 256 * (256 ^ length bs * little_number ds) = ap (λ (n : ℕ). n * little_number ds) (mul_comm (256 ^ length bs) 256) ∙ mul_assoc 256 (256 ^ length bs) (little_number ds) in
    rw (pow-suc 256 (length bs), e) (omega (arith, number_append bs ds))

-- ---- a number among bytes
-- A number is that of its first v bytes and that of the others.
pub number_split : (bs : List ℕ) (at v w : ℕ) → at + v ≤ length bs → number_at bs at (v + w) ≡ number_at bs at v + 256 ^ v * number_at bs (at + v) w
number_split bs at v w l =
    let n : length (take v (drop at bs)) ≡ v = simp (length-take, length-drop) (omega arith) in
    ap little_number (take-add v w (drop at bs))
    ∙ number_append (take v (drop at bs)) (take w (drop v (drop at bs)))
    ∙ ap₂ (λ (k : ℕ) (d : List ℕ). number_at bs at v + 256 ^ k * little_number (take w d)) n (drop-drop v at bs)

-- What w bytes say fits in as many.
pub number_at_lt : (bs : List ℕ) (at w : ℕ) → AllBytes bs → number_at bs at w < 256 ^ w
number_at_lt bs at w h =
    let d = take w (drop at bs) in
    let few : length d ≤ w = omega (arith, length-take w (drop at bs)) in
    lt_of_lt_of_le (number_lt d (bytes_take w (drop at bs) (bytes_drop at bs h))) (pow-le-pow_right (lit≤ tt) few)

-- The number that w bytes say, written after the bytes before them, gives these bytes again.
pub number_next : (bs : List ℕ) (at w : ℕ) → AllBytes bs → at + w ≤ length bs → {x : List ℕ} → x ≡ take at bs → x ++ little w (number_at bs at w) ≡ take (at + w) bs
number_next bs at w h l e =
    let d = take w (drop at bs) in
    let n : length d ≡ w = simp (length-take, length-drop) (omega arith) in
    let f : little w (little_number d) ≡ d = rw n at (number_little d (bytes_take w (drop at bs) (bytes_drop at bs h))) in
    rw (e, f, take-add at w bs)

-- ---- the test says whether two lists are equal
pub same_exactly : (xs ys : List ℕ) → (same xs ys ≡ true) ↔ (xs ≡ ys)
unfolding same
same_exactly xs ys = (to xs ys, λ e. rw e (itself ys))
  where
    to : (xs ys : List ℕ) → same xs ys ≡ true → xs ≡ ys
    to [] [] e = refl
    to [] (y ∷ ys) e = absurd (false≢true e)
    to (x ∷ xs) [] e = absurd (false≢true e)
    to (x ∷ xs) (y ∷ ys) e =
        let p = both (eqb x y) (same xs ys) e in
        ap₂ {C = List ℕ} (λ a l. a ∷ l) (eqb-true x y p.0) (to xs ys p.1)

    itself : (ys : List ℕ) → same ys ys ≡ true
    itself [] = refl
    itself (y ∷ ys) = ap₂ ◌&&◌ (eq-eqb y y refl) (itself ys)

-- Place by place: it is up to the two numbers here, and to what follows.
module _ (xs ys : List ℕ) (i j : ℕ) (hi : i < length xs) (hj : j < length ys) where
  pub same_here : same (drop i xs) (drop j ys) ≡ (eqb (get_or xs i 0) (get_or ys j 0) && same (drop (i + 1) xs) (drop (j + 1) ys))
  unfolding same
  same_here = rw (add-one i, add-one j) (ap₂ same (drop-cons xs i 0 hi) (drop-cons ys j 0 hj))

  pub same_turn : get_or xs i 0 ≡ get_or ys j 0 → same (drop i xs) (drop j ys) ≡ same (drop (i + 1) xs) (drop (j + 1) ys)
  same_turn e = same_here ∙ ap (λ (v : Bool). v && same (drop (i + 1) xs) (drop (j + 1) ys)) (eq-eqb (get_or xs i 0) (get_or ys j 0) e)

  pub same_differs : (get_or xs i 0 ≡ get_or ys j 0 → ⊥) → same (drop i xs) (drop j ys) ≡ false
  same_differs e = same_here ∙ ap (λ (v : Bool). v && same (drop (i + 1) xs) (drop (j + 1) ys)) (ne_eqb (get_or xs i 0) (get_or ys j 0) e)
