-- Bytes parted at each separator.
use Rattle.std.specs.Prelude.{ℕ, cond, List, [], ◌∷◌, eqb}

-- What ends in a separator, piece by piece without it, and the tail after the last one.
pub record Parts : Type 0 where
  pub pieces : List (List ℕ)
  pub tail : List ℕ

-- One more byte in front: of the first piece, or of the tail where there is none.
abbrev pub longer : ℕ → List (List ℕ) → List ℕ → Parts
longer b [] tail = record { pieces = []; tail = b ∷ tail }
longer b (p ∷ ps) tail = record { pieces = (b ∷ p) ∷ ps; tail = tail }

unfoldable pub parted : ℕ → List ℕ → Parts
parted separator [] = record { pieces = []; tail = [] }
parted separator (b ∷ bs) =
    let later = parted separator bs in
    cond (eqb b separator) (record { pieces = [] ∷ later.pieces; tail = later.tail }) (longer b later.pieces later.tail)

-- The bytes before the first separator, or all.
unfoldable pub before : ℕ → List ℕ → List ℕ
before separator [] = []
before separator (b ∷ bs) =
    let later = before separator bs in
    cond (eqb b separator) [] (b ∷ later)
