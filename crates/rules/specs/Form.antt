-- The form of an image: which records it has.
use Rattle.std.specs.Prelude.{ℕ, Bool, true, false, ◌&&◌, List, [], ◌∷◌, ◌++◌, eqb, length, replicate}
use Rattle.rules.specs.TreeBytes.{tree_bytes}
use Rattle.rules.specs.Records.{Piece}

-- A record's kind, and the size of its payload.
pub record Head : Type 0 where
  pub kind : ℕ
  pub size : ℕ

abbrev pub head_of : Piece → Head
head_of r = record { kind = r.kind; size = length r.payload }

-- A record of this kind and this size.
unfoldable pub headed : ℕ → ℕ → Head → Bool
headed kind size h = eqb h.kind kind && eqb h.size size

-- "one of kind 1, payload 2 bytes"
abbrev pub count_kind : ℕ
count_kind = 1

abbrev pub count_size : ℕ
count_size = 2

abbrev pub count_head : Head → Bool
count_head = headed count_kind count_size

-- "kind 2, 14 bytes each"
abbrev pub connection_kind : ℕ
connection_kind = 2

abbrev pub connection_size : ℕ
connection_size = 14

abbrev pub connection_head : Head → Bool
connection_head = headed connection_kind connection_size

-- "one of kind 3, the 128 tree bytes"
abbrev pub tree_kind : ℕ
tree_kind = 3

abbrev pub tree_size : ℕ
tree_size = tree_bytes

abbrev pub tree_head : Head → Bool
tree_head = headed tree_kind tree_size

-- What is asked for in each place: "In order: one of kind 1 ..; n of kind 2 ..; one of kind 3 .. Nothing follows."
abbrev pub form : ℕ → List (Head → Bool)
form n = count_head ∷ (replicate n connection_head ++ (tree_head ∷ []))

-- Each record is what is asked for in its place, and none is missing or left over.
unfoldable pub formed : List (Head → Bool) → List Head → Bool
formed [] [] = true
formed [] (h ∷ hs) = false
formed (asked ∷ later) [] = false
formed (asked ∷ later) (h ∷ hs) = asked h && formed later hs
