-- Bytes in lower-case hexadecimal.
use Rattle.std.specs.Prelude.{ℕ, ◌+◌, ◌-◌, ◌*◌, ◌/◌, ◌%◌, Bool, true, ◌&&◌, cond, List, [], ◌∷◌, ltb}
use Rattle.rules.specs.Text.{byte}

-- The digits 0 to 9, then a to f.
abbrev pub hex_digit : ℕ → ℕ
hex_digit d = cond (ltb d 10) (byte "0" + d) (byte "a" + (d - 10))

-- Two for each byte, the higher first.
unfoldable pub hex : List ℕ → List ℕ
hex [] = []
hex (b ∷ bs) = hex_digit (b / 16) ∷ hex_digit (b % 16) ∷ hex bs

-- The number that a digit says.
abbrev pub digit_value : ℕ → ℕ
digit_value c = cond (ltb c (byte "a")) (c - byte "0") (c - byte "a" + 10)

-- The bytes that pairs of digits say.
unfoldable pub unhex : List ℕ → List ℕ
unhex [] = []
unhex (c ∷ []) = []
unhex (c ∷ d ∷ rest) = (digit_value c * 16 + digit_value d) ∷ unhex rest

-- Bytes that are bytes.
unfoldable pub all_bytes : List ℕ → Bool
all_bytes [] = true
all_bytes (b ∷ bs) = ltb b 256 && all_bytes bs
