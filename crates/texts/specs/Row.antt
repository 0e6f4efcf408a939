-- What reading a line finds: a number, and a row of them.
use Rattle.std.specs.Prelude.{ℕ, ◌≡◌, true, ◌&&◌, cond, List, Option, None, Some}
use Rattle.rules.specs.Bytes.{same}
use Rattle.rules.specs.Decimal.{decimal, value, fits}
use Rattle.rules.specs.Words.{spaced}
use Rattle.rules.specs.Commands.{all_fit}

-- Bytes are read as a number exactly if they are its digits.
unfoldable pub number_in : List ℕ → Option ℕ
unfolding decimal value same fits
number_in bytes =
    let n = value bytes in
    cond (same (decimal n) bytes && fits n) (Some n) None

-- The bytes are these numbers, "one space before each", each "at most 2^32 − 1", and nothing more.
pub record IsRow (bytes ns : List ℕ) : Type 0 where
  pub is : bytes ≡ spaced ns
  pub fit : all_fit ns ≡ true

-- No command has more numbers.
abbrev pub most_numbers : ℕ
most_numbers = 5
