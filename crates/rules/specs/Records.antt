-- Records one after the other: how they are written, where each begins, and how they are read.
use Rattle.std.specs.Prelude.{ℕ, zero, suc, ◌+◌, List, [], ◌∷◌, ◌++◌, length, take, drop}
use Rattle.rules.specs.Bytes.{little, little_number}

-- "Records, all numbers little-endian: length of the payload (2 bytes), kind (2 bytes), payload."
pub record Piece : Type 0 where
  pub kind : ℕ
  pub payload : List ℕ

abbrev pub header_size : ℕ
header_size = 4

unfoldable pub bytes_of : Piece → List ℕ
unfolding little
bytes_of r = little 2 (length r.payload) ++ little 2 r.kind ++ r.payload

unfoldable pub joined : List Piece → List ℕ
unfolding bytes_of
joined [] = []
joined (r ∷ rs) = bytes_of r ++ joined rs

-- Record i begins where the first i end.
abbrev pub begin : List Piece → ℕ → ℕ
begin rs i = length (joined (take i rs))

-- The record that bytes begin with, by its length and kind, and the records after it; n bounds how many.
unfoldable pub pieces_in : ℕ → List ℕ → List Piece
unfolding little_number
pieces_in zero bytes = []
pieces_in (suc n) [] = []
pieces_in (suc n) (b ∷ bs) =
    let bytes = b ∷ bs in
    let size = little_number (take 2 bytes) in
    record { kind = little_number (take 2 (drop 2 bytes)); payload = take size (drop header_size bytes) }
    ∷ pieces_in n (drop (header_size + size) bytes)

-- The records of the bytes.
unfoldable pub pieces_of : List ℕ → List Piece
unfolding pieces_in
pieces_of bytes = pieces_in (length bytes) bytes
