-- Mirroring by exchanges, from the top down: of 16 bits the halves change places, then the quarters, then twos, then ones.
use mathlib.Core.Path.{◌≡◌, refl, sym, ap, ◌∙◌}
use Prim.Native.Nat.{ℕ, zero, suc, ◌+◌, ◌-◌, ◌*◌, ◌/◌, ◌%◌, ◌^◌, ◌<◌, ◌≤◌}
use native.Mathlib.Nat.{mod-lt, mod-eq_of_lt, mul-le-mul_right}
use native.Mathlib.Omega.{arith}
use lib.Bits.{bit_or, bit_and, block_odd, block_half, and_le_r, and_mask, and_block, or_block, or_lt, or_shifted}
use lib.Dec.{lit<}
use lib.Pow.{pow_pos, pow_mono, pow-add, split, high, mod-pow-add, mod-mod-pow, ones_lt, shl_lt, shr-shr}
use Rattle.rules.specs.Classes.{depth}
use Rattle.rules.specs.Mirror.{mirrored}
use Rattle.blocks.proofs.MirrorLaws.{mirror_lt, mirror_split}
use Rattle.tree.specs.Promises.{Mirrored}

-- What stands above the m bits does not count.
mirror_above : (m q x : ℕ) → mirrored m (q * 2 ^ m + x) ≡ mirrored m x
unfolding mirrored
mirror_above zero q x = refl
mirror_above (suc m) q x = rw (block_odd q m x, block_half q m x) (ap (λ (y : ℕ). x % 2 * 2 ^ m + y) (mirror_above m q (x / 2)))

-- Only the lowest m bits count.
mirror_within : (m x : ℕ) → mirrored m (x % 2 ^ m) ≡ mirrored m x
mirror_within m x = sym (mirror_above m (x / 2 ^ m) (x % 2 ^ m)) ∙ ap (mirrored m) (split x m)

-- The lowest n blocks of m bits of x, each mirrored where it stands.
each_mirrored : ℕ → ℕ → ℕ → ℕ
each_mirrored m zero x = 0
each_mirrored m (suc n) x = each_mirrored m n (x / 2 ^ m) * 2 ^ m + mirrored m x

-- One block is the whole.
each_whole : (m x : ℕ) → mirrored m x ≡ each_mirrored m 1 x
unfolding each_mirrored
each_whole m x = omega arith

-- Of blocks of one bit nothing is left to mirror.
each_one : (n x : ℕ) → each_mirrored 1 n x ≡ x % 2 ^ n
unfolding each_mirrored mirrored
each_one zero x = omega arith
each_one (suc n) x =
    let b : mirrored 1 x ≡ x % 2 = omega arith in
    let c : n + 1 ≡ suc n = omega arith in
    rw (each_one n (x / 2), b) (rw c at (sym (mod-pow-add x n 1)))

-- n times m zeros above m ones
mask : ℕ → ℕ → ℕ
mask m zero = 0
mask m (suc n) = mask m n * 2 ^ (m + m) + (2 ^ m - 1)

-- `((x & k) << m) | ((x >> m) & k)`
abbrev swap : ℕ → ℕ → ℕ → ℕ
swap m k x = bit_or (bit_and x k * 2 ^ m % 4294967296) (bit_and (x / 2 ^ m) k)

-- ---- one exchange: blocks of m bits change places with their neighbours
module _ (m : ℕ) where
  two_wide : 2 ^ m ≤ 2 ^ (m + m)
  two_wide = pow_mono (omega arith)

  masked : (n x : ℕ) → bit_and x (mask m (suc n)) ≡ bit_and (x / 2 ^ (m + m)) (mask m n) * 2 ^ (m + m) + x % 2 ^ m
  unfolding mask
  masked n x =
      let q : ℕ = x / 2 ^ (m + m) in
      let r : ℕ = x % 2 ^ (m + m) in
      ap (λ (y : ℕ). bit_and y (mask m (suc n))) (sym (split x (m + m)))
      ∙ and_block (m + m) q (mask m n) r (2 ^ m - 1) (mod-lt x (pow_pos (m + m))) (omega (arith, ones_lt m, two_wide))
      ∙ ap (λ (y : ℕ). bit_and q (mask m n) * 2 ^ (m + m) + y) (and_mask r m ∙ mod-mod-pow x m m)

  -- the swap as long as no bit is shifted out
  exchanged : ℕ → ℕ → ℕ
  exchanged n x = bit_or (bit_and x (mask m n) * 2 ^ m) (bit_and (x / 2 ^ m) (mask m n))

  -- the lowest two blocks change places, and so do those above them
  exchanged_suc : (n x : ℕ) → exchanged (suc n) x ≡ exchanged n (x / 2 ^ (m + m)) * 2 ^ (m + m) + (x % 2 ^ m * 2 ^ m + x / 2 ^ m % 2 ^ m)
  unfolding exchanged
  exchanged_suc n x =
      let q : ℕ = x / 2 ^ (m + m) in
      let lo : ℕ = x % 2 ^ m in
      let hi : ℕ = x / 2 ^ m % 2 ^ m in
      let h : hi < 2 ^ m = mod-lt (x / 2 ^ m) (pow_pos m) in
      let s : x / 2 ^ m / 2 ^ (m + m) ≡ q / 2 ^ m = shr-shr x m (m + m) ∙ ap (λ (y : ℕ). x / 2 ^ y) (omega arith) ∙ sym (shr-shr x (m + m) m) in
      let e : (bit_and q (mask m n) * 2 ^ (m + m) + lo) * 2 ^ m ≡ bit_and q (mask m n) * 2 ^ m * 2 ^ (m + m) + lo * 2 ^ m = omega arith in
      rw (masked n x, masked n (x / 2 ^ m), e, s)
      (or_block (m + m) _ _ (lo * 2 ^ m) hi (shl_lt m m (mod-lt x (pow_pos m))) (omega (arith, two_wide))
      ∙ ap (λ (y : ℕ). exchanged n q * 2 ^ (m + m) + y) (or_shifted lo m hi h))

  -- where each block of m + m bits is still to be mirrored, exchanging its halves leaves each block of m bits to be mirrored
  each_exchanged : (n x : ℕ) → each_mirrored (m + m) n x ≡ each_mirrored m (n + n) (exchanged n x)
  unfolding each_mirrored
  each_exchanged zero x = refl
  each_exchanged (suc n) x =
      let q : ℕ = exchanged n (x / 2 ^ (m + m)) in
      let lo : ℕ = x % 2 ^ m in
      let hi : ℕ = x / 2 ^ m % 2 ^ m in
      let c : suc n + suc n ≡ suc (suc (n + n)) = omega arith in
      let e : exchanged (suc n) x ≡ (q * 2 ^ m + lo) * 2 ^ m + hi = exchanged_suc n x ∙ rw (pow-add 2 m m) (omega arith) in
      let h : hi < 2 ^ m = mod-lt (x / 2 ^ m) (pow_pos m) in
      let l : lo < 2 ^ m = mod-lt x (pow_pos m) in
      rw (c, e, high (q * 2 ^ m + lo) m h, high q m l, mirror_above m (q * 2 ^ m + lo) hi, mirror_above m q lo, mirror_within m (x / 2 ^ m), mirror_within m x)
      (rw (each_exchanged n (x / 2 ^ (m + m)), mirror_split m m x, pow-add 2 m m)
      (omega arith))

  each_swap : (n x : ℕ) → mask m n * 2 ^ m < 4294967296 → each_mirrored (m + m) n x ≡ each_mirrored m (n + n) (swap m (mask m n) x)
  unfolding exchanged
  each_swap n x h =
      let l : bit_and x (mask m n) * 2 ^ m ≤ mask m n * 2 ^ m = mul-le-mul_right (2 ^ m) (and_le_r x (mask m n)) in
      let e : bit_and x (mask m n) * 2 ^ m % 4294967296 ≡ bit_and x (mask m n) * 2 ^ m = mod-eq_of_lt (omega arith) in
      rw e (each_exchanged n x)

-- ---- what `mirror` returns: 16 bits mirrored, of which the highest k come down
pub mirror_swaps : (k p : ℕ) → k ≤ depth → Mirrored k p (swap 1 0x5555 (swap 2 0x3333 (swap 4 0x0f0f (swap 8 0x00ff p))) / 2 ^ (16 - k))
unfolding mask
mirror_swaps k p h =
    let eights : ℕ = swap 8 0x00ff p in
    let fours : ℕ = swap 4 0x0f0f eights in
    let twos : ℕ = swap 2 0x3333 fours in
    let ones : ℕ = swap 1 0x5555 twos in
    let t : mirrored 16 p ≡ ones % 2 ^ 16 =
    each_whole 16 p ∙ each_swap 8 1 p (lit< tt) ∙ each_swap 4 2 eights (lit< tt) ∙ each_swap 2 4 fours (lit< tt) ∙ each_swap 1 8 twos (lit< tt) ∙ each_one 16 ones in
    let a : bit_and twos 0x5555 * 2 ^ 1 % 4294967296 < 2 ^ 16 = omega (arith, and_le_r twos 0x5555) in
    let b : bit_and (twos / 2 ^ 1) 0x5555 < 2 ^ 16 = omega (arith, and_le_r (twos / 2 ^ 1) 0x5555) in
    let s : k + (16 - k) ≡ 16 = omega arith in
    let e : mirrored 16 p ≡ mirrored k p * 2 ^ (16 - k) + mirrored (16 - k) (p / 2 ^ k) = rw s at (mirror_split k (16 - k) p) in
    let r : ones / 2 ^ (16 - k) ≡ mirrored k p =
    ap (λ (x : ℕ). x / 2 ^ (16 - k)) (sym (mod-eq_of_lt (or_lt 16 _ _ a b)) ∙ sym t ∙ e)
    ∙ high (mirrored k p) (16 - k) (mirror_lt (16 - k) (p / 2 ^ k)) in
    record { is = r; below = rw r (mirror_lt k p) }
