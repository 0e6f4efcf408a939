-- The laws of the mirrored order.
use mathlib.Core.Path.{◌≡◌, refl, ap, ◌∙◌}
use Prim.Native.Nat.{ℕ, zero, suc, ◌+◌, ◌-◌, ◌*◌, ◌/◌, ◌%◌, ◌^◌, ◌<◌}
use native.Mathlib.Nat.{pow-suc, zero-add, suc-add, add_comm, div-one}
use native.Mathlib.Omega.{arith}
use lib.Dec.{lit<, eqb}
use lib.Bits.{block_odd, block_half}
use lib.Pow.{pow-add, low, high, shr-shr}
use Rattle.rules.specs.Mirror.{mirrored}
use Rattle.rules.specs.TreeBytes.{bit_of}

bit_lt : (b m n : ℕ) → b < 2 → m < n → b * n + m < n * 2
bit_lt zero m n hb h = omega arith
bit_lt (suc zero) m n hb h = omega arith
bit_lt (suc (suc b)) m n hb h = absurd (omega arith)

-- What is mirrored stays below 2^k.
pub mirror_lt : (k p : ℕ) → mirrored k p < 2 ^ k
unfolding mirrored
mirror_lt zero p = lit< tt
mirror_lt (suc k) p = rw (pow-suc 2 k) (bit_lt (p % 2) (mirrored k (p / 2)) (2 ^ k) (omega arith) (mirror_lt k (p / 2)))

-- The lowest k of k + d bits, mirrored, stand above the others, mirrored.
pub mirror_split : (k d p : ℕ) → mirrored (k + d) p ≡ mirrored k p * 2 ^ d + mirrored d (p / 2 ^ k)
unfolding mirrored
mirror_split zero d p = rw (zero-add d, div-one p) (omega arith)
mirror_split (suc k) d p =
    let s : p / 2 / 2 ^ k ≡ p / 2 ^ suc k = shr-shr p 1 k ∙ ap (λ (x : ℕ). p / 2 ^ x) (omega arith) in
    rw (suc-add k d, mirror_split k d (p / 2), pow-add 2 k d, s) (omega arith)

-- The highest bit becomes the lowest.
pub mirror_high : (k b m : ℕ) → b < 2 → m < 2 ^ k → mirrored (suc k) (b * 2 ^ k + m) ≡ mirrored k m * 2 + b
unfolding mirrored
mirror_high zero b m hb hm =
    let e : b * 1 + m ≡ b = omega arith in
    rw e (omega arith)
mirror_high (suc j) b m hb hm =
    let h : m / 2 < 2 ^ j = omega arith in
    rw (block_odd b j m, block_half b j m)
    (ap (λ (x : ℕ). m % 2 * 2 ^ suc j + x) (mirror_high j b (m / 2) hb h) ∙ rw (pow-suc 2 j) (omega arith))

-- Mirroring twice gives the number back.
pub mirror_mirror : (k p : ℕ) → p < 2 ^ k → mirrored k (mirrored k p) ≡ p
unfolding mirrored
mirror_mirror zero p h = omega arith
mirror_mirror (suc k) p h =
    let h' : p / 2 < 2 ^ k = omega arith in
    mirror_high k (p % 2) (mirrored k (p / 2)) (omega arith) (mirror_lt k (p / 2))
    ∙ rw (mirror_mirror k (p / 2) h') (omega arith)

-- The lowest K bits of what is mirrored are the highest K, mirrored.
pub mirror_low : (d K p : ℕ) → mirrored (K + d) p % 2 ^ K ≡ mirrored K (p / 2 ^ d)
mirror_low d K p = rw (add_comm K d, mirror_split d K p) (low (mirrored d p) K (mirror_lt K (p / 2 ^ d)))

-- "p with its k bits in mirrored order": bit i of what is mirrored is bit k - 1 - i of p.
pub mirror_bit : (k p i : ℕ) → i < k → bit_of (mirrored k p) i ≡ bit_of p (k - 1 - i)
unfolding mirrored
mirror_bit k p i h =
    let d = k - 1 - i in
    let e : k ≡ 1 + d + i = omega arith in
    let above : mirrored (1 + d + i) p / 2 ^ i ≡ mirrored (1 + d) p = rw (mirror_split (1 + d) i p) (high (mirrored (1 + d) p) i (mirror_lt i (p / 2 ^ (1 + d)))) in
    let lowest : mirrored (1 + d) p % 2 ≡ p / 2 ^ d % 2 = mirror_low d 1 p ∙ omega arith in
    ap (λ (x : ℕ). eqb (x % 2) 1) (ap (λ (x : ℕ). mirrored x p / 2 ^ i) e ∙ above) ∙ ap (λ (x : ℕ). eqb x 1) lowest

-- Without its lowest bit, what is mirrored is the mirror of one bit less.
mirror_half : (k p : ℕ) → mirrored (suc k) p / 2 ≡ mirrored k p
mirror_half k p =
    let e : suc k ≡ k + 1 = omega arith in
    rw (e, mirror_split k 1 p) (high (mirrored k p) 1 (mirror_lt 1 (p / 2 ^ k)))

-- What is mirrored is the mirror of its half, moved down a bit, with its lowest bit on top.
pub mirror_by_half : (k p : ℕ) → 0 < k → mirrored k (p / 2) / 2 + p % 2 * 2 ^ (k - 1) ≡ mirrored k p
unfolding mirrored
mirror_by_half zero p h = absurd (omega arith)
mirror_by_half (suc k) p h =
    let e : suc k - 1 ≡ k = omega arith in
    rw (e, mirror_half k (p / 2)) (omega arith)

pub mirror_zero : (k : ℕ) → mirrored k 0 ≡ 0
unfolding mirrored
mirror_zero zero = refl
mirror_zero (suc k) = omega (arith, mirror_zero k)

-- The two children of a node: the position's new lowest bit is the class's new highest bit.
pub mirror_left : (k p : ℕ) → mirrored (suc k) (2 * p) ≡ mirrored k p
unfolding mirrored
mirror_left k p =
    let e : 2 * p % 2 ≡ 0 = omega arith in
    let h : 2 * p / 2 ≡ p = omega arith in
    rw (e, h) (omega arith)

pub mirror_right : (k p : ℕ) → mirrored (suc k) (2 * p + 1) ≡ 2 ^ k + mirrored k p
unfolding mirrored
mirror_right k p =
    let e : (2 * p + 1) % 2 ≡ 1 = omega arith in
    let h : (2 * p + 1) / 2 ≡ p = omega arith in
    rw (e, h) (omega arith)
