-- Numbers in a text: "decimal, no leading zero save `0`, at most 2^32 − 1".
use Rattle.std.specs.Prelude.{ℕ, zero, suc, ◌+◌, ◌-◌, ◌*◌, ◌/◌, ◌%◌, ◌^◌, Bool, cond, List, [], ◌∷◌, ◌++◌, ltb}
use Rattle.rules.specs.Text.{byte}

-- Below ten a number has one digit; else those of n / 10, and then its last. It is divided less than `most` times.
unfoldable pub decimal_within : ℕ → ℕ → List ℕ
decimal_within zero n = []
decimal_within (suc most) n =
    let before = decimal_within most (n / 10) in
    cond (ltb n 10) ((byte "0" + n) ∷ []) (before ++ ((byte "0" + n % 10) ∷ []))

-- The digits of a number.
unfoldable pub decimal : ℕ → List ℕ
unfolding decimal_within
decimal n = decimal_within (suc n) n

-- The number that digits say, after some that say n.
unfoldable pub value_from : ℕ → List ℕ → ℕ
value_from n [] = n
value_from n (d ∷ ds) = value_from (n * 10 + (d - byte "0")) ds

unfoldable pub value : List ℕ → ℕ
unfolding value_from
value ds = value_from 0 ds

-- The numbers that a text and a call can have.
unfoldable pub fits : ℕ → Bool
fits n = ltb n (2 ^ 32)
