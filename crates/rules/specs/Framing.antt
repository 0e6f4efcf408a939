-- Check 9 of a load: the records of the bytes.
use Rattle.std.specs.Prelude.{ℕ, ◌≡◌, Bool, false, not, ◌&&◌, List, [], ◌∷◌, map, leb}
use Rattle.rules.specs.Ownership.{handles}
use Rattle.rules.specs.Bytes.{little_number, same}
use Rattle.rules.specs.Records.{Piece, joined, pieces_of}
use Rattle.rules.specs.Form.{Head, head_of, headed, form, formed}

-- The count that a first record of kind 1 says.
unfoldable pub count_in : List Piece → ℕ
unfolding little_number
count_in [] = 0
count_in (r ∷ rs) = little_number r.payload

-- The bytes are records one after the other, each what is asked for in its place.
unfoldable pub records_are : List (Head → Bool) → List ℕ → Bool
unfolding pieces_of joined same formed
records_are asked bytes =
    let rs = pieces_of bytes in
    same (joined rs) bytes && formed asked (map head_of rs)

-- 9: "sizes, kinds, order or number of records wrong, n above 64, or bytes missing or left over"
unfoldable pub records_wrong : List ℕ → Bool
unfolding pieces_of count_in headed records_are
records_wrong bytes =
    let n = count_in (pieces_of bytes) in
    not (leb n handles && records_are (form n) bytes)

-- The bytes are an image's records, and count n connections.
pub record Framed (bytes : List ℕ) (n : ℕ) : Type 0 where
  pub right : records_wrong bytes ≡ false
  pub counts : count_in (pieces_of bytes) ≡ n
