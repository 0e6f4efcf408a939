-- The image of a schedule: the bytes that are written.
use Rattle.std.specs.Prelude.{ℕ, ◌≡◌, List, [], ◌∷◌, ◌++◌, length}
use Rattle.rules.specs.declared.Connection.{Connection}
use Rattle.rules.specs.declared.Schedule.{Schedule}
use Rattle.rules.specs.Good.{tree_for}
use Rattle.rules.specs.Handles.{each_live}
use Rattle.rules.specs.Bytes.{little}
use Rattle.rules.specs.Records.{Piece, joined}
use Rattle.rules.specs.Form.{count_kind, count_size, connection_kind, tree_kind}

-- "one of kind 1, payload 2 bytes, the count n of live connections (0 to 64)"
unfoldable pub count_piece : ℕ → Piece
unfolding little
count_piece n = record { kind = count_kind; payload = little count_size n }

-- "kind 2, 14 bytes each: handle (1), k (1), A (2), L (2), floor (2), ceiling (2), estimate (4)"
unfoldable pub connection_piece : ℕ → Connection → Piece
unfolding little
connection_piece h c =
    record {
      kind = connection_kind;
      payload =
          little 1 h ++ little 1 c.k ++ little 2 c.anchor ++ little 2 c.length
          ++ little 2 c.floor ++ little 2 c.ceiling ++ little 4 c.estimate;
    }

-- One for each live connection, "handles rising", from handle h on.
abbrev pub connection_pieces : ℕ → List Connection → List Piece
connection_pieces = each_live connection_piece

-- "one of kind 3, the 128 tree bytes": those of the connections.
unfoldable pub tree_piece : Schedule → Piece
unfolding tree_for
tree_piece s = record { kind = tree_kind; payload = tree_for s.connections }

-- The records of a schedule, in the order of the form.
unfoldable pub pieces : Schedule → List Piece
unfolding count_piece connection_piece each_live tree_piece
pieces s =
    let each = connection_pieces 0 s.connections in
    count_piece (length each) ∷ (each ++ (tree_piece s ∷ []))

unfoldable pub image : Schedule → List ℕ
unfolding pieces joined
image s = joined (pieces s)

-- These bytes are an image of this schedule. A later form of the image is one more case here.
abbrev pub IsImage : List ℕ → Schedule → Type 0
IsImage bytes s = bytes ≡ image s
