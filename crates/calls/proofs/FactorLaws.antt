-- Why the largest k is 8: "the Core Specification limits the subrate factor to 500, so our largest power of two is 256".
use mathlib.Core.Path.{◌≡◌}
use mathlib.Core.Bool.{true}
use mathlib.Core.Logic.{◌↔◌, by_cases}
use Prim.Native.Nat.{ℕ, suc, ◌^◌, ◌<◌, ◌≤◌}
use native.Mathlib.Decide.{dec_le}
use native.Mathlib.Omega.{arith}
use lib.Dec.{leb}
use lib.Pow.{pow_pos, pow_mono}
use borrow.Author.Tests.{le-leb, leb-true}
use Rattle.rules.specs.Core.{least_factor, largest_factor}
use Rattle.rules.specs.Ownership.{largest_k}
use Rattle.rules.specs.Subrates.{is_factor}
use Rattle.basics.proofs.BoolLaws.{both}

-- 2^8 is at most 500, and 2^9 is not.
pub why_8 : (2 ^ largest_k ≤ largest_factor) × (largest_factor < 2 ^ suc largest_k)
why_8 = (omega arith, omega arith)

-- So the powers of two that the Core Specification allows as a factor are those up to the largest k.
pub factor_legal : (k : ℕ) → (is_factor (2 ^ k) ≡ true) ↔ (k ≤ largest_k)
factor_legal k = (
  λ e.
      by_cases (dec_le k largest_k)
      (λ l. l)
      (λ l.
      let above : suc largest_k ≤ k = omega arith in
      let m : 2 ^ suc largest_k ≤ 2 ^ k = pow_mono above in
      let n = leb-true (2 ^ k) largest_factor (both (leb least_factor (2 ^ k)) (leb (2 ^ k) largest_factor) e).1 in
      absurd (omega arith)),
  λ l.
      let m : 2 ^ k ≤ 2 ^ largest_k = pow_mono l in
      rw (le-leb least_factor (2 ^ k) (pow_pos k), le-leb (2 ^ k) largest_factor (omega arith)),
)
