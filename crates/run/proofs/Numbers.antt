-- Shifts and masks as powers and remainders.
use mathlib.Core.Path.{◌≡◌, refl}
use Prim.Native.Nat.{ℕ, ◌+◌, ◌-◌, ◌*◌, ◌%◌, ◌^◌, ◌<◌, ◌≤◌}
use native.Mathlib.Nat.{mod-eq_of_lt, mod-lt, mod-add-mod, one-mul}
use native.Mathlib.Omega.{arith}
use lib.Bits.{bit_and, and_mask}
use lib.Pow.{pow_pos, pow-lt, pow_mono}
use Rattle.rules.specs.Classes.{depth}
use Rattle.rules.specs.Time.{minus_mod}
use Rattle.run.specs.Promises.{Factor, MinusMod}

-- `1u32 << k`
pub shifted : (k : ℕ) → k ≤ depth → Factor k (1 * 2 ^ k % 4294967296)
shifted k h =
    let l : k < 32 = omega arith in
    let e : 1 * 2 ^ k % 4294967296 ≡ 2 ^ k = rw one-mul (mod-eq_of_lt (pow-lt l)) in
    let g : 2 ^ k ≤ 512 = pow_mono h in
    rw e (record { is = refl; positive = pow_pos k; small = g })

-- `n & (factor - 1)`
pub masked : (k n F : ℕ) → F ≡ 2 ^ k → bit_and n (F - 1) ≡ n % 2 ^ k
masked k n F e = rw e (and_mask n k)

-- `((a & mask) + (factor - (b & mask))) & mask`
pub round : (k a b F : ℕ) → F ≡ 2 ^ k → MinusMod k a b (bit_and (a % 2 ^ k + (F - b % 2 ^ k)) (F - 1))
unfolding minus_mod
round k a b F e =
    rw (e, and_mask (a % 2 ^ k + (2 ^ k - b % 2 ^ k)) k)
    (record { is = mod-add-mod a (2 ^ k) (2 ^ k - b % 2 ^ k); below = mod-lt _ (pow_pos k) })
