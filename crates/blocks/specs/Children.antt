-- The bytes of a tree, and its inner nodes.
use Rattle.std.specs.Prelude.{ℕ, ◌+◌, ◌*◌, ◌<◌, ◌≡◌, ◌||◌, List, length, get_or}
use Rattle.rules.specs.TreeBytes.{tree_bytes, bit_at}

-- So many bytes.
pub record Sized (bytes : List ℕ) : Type 0 where
  pub long : length bytes ≡ tree_bytes
  pub small : (i : ℕ) → get_or bytes i 0 < 256

-- Node a of the bytes is the OR of its two children.
abbrev pub OrOfChildren : List ℕ → ℕ → Type 0
OrOfChildren t a = bit_at t a ≡ bit_at t (2 * a) || bit_at t (2 * a + 1)
