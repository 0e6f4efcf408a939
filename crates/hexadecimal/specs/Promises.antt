-- What the writing and reading of hexadecimal promises.
use Rattle.std.specs.Prelude.{ℕ, ◌<◌, ◌≤◌, ◌≡◌, true, List, length, take, Option, Some, None}
use Rattle.hexadecimal.specs.Hex.{hex_digit, hex, all_bytes}

-- The digit is that of a number below 16; or it is that of none.
abbrev pub IsNibble : ℕ → Option ℕ → Type 0
IsNibble c (Some d) = (d < 16) × (c ≡ hex_digit d)
IsNibble c None = (d : ℕ) → d < 16 → c ≡ hex_digit d → ⊥

-- The digits are those of the first n bytes of the buffer, one at least; or they are those of no bytes.
abbrev pub ReadsHex : List ℕ → List ℕ → Option ℕ → Type 0
ReadsHex digits buffer (Some n) = (0 < n) × (n ≤ length buffer) × (digits ≡ hex (take n buffer)) × (all_bytes (take n buffer) ≡ true)
ReadsHex digits buffer None = (bytes : List ℕ) → 0 < length bytes → all_bytes bytes ≡ true → digits ≡ hex bytes → ⊥
