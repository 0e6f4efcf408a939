-- Bits in mirrored order.
use Rattle.std.specs.Prelude.{ℕ, zero, suc, ◌+◌, ◌*◌, ◌/◌, ◌%◌, ◌^◌}

-- The number p "with its k bits in mirrored order": the lowest bit of p becomes the highest of k bits, and so on.
unfoldable pub mirrored : ℕ → ℕ → ℕ
mirrored zero p = 0
mirrored (suc k) p = p % 2 * 2 ^ k + mirrored k (p / 2)
