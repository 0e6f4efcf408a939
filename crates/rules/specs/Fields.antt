-- What the records of an image say.
use Rattle.std.specs.Prelude.{ℕ, true, cond, List, [], ◌∷◌, ◌++◌, eqb}
use Rattle.rules.specs.declared.Connection.{Connection}
use Rattle.rules.specs.Bytes.{little_number, number_at}
use Rattle.rules.specs.Records.{Piece}
use Rattle.rules.specs.Form.{connection_kind, tree_kind}

-- The records of connections.
unfoldable pub connections_in : List Piece → List Piece
connections_in [] = []
connections_in (r ∷ rs) =
    let later = connections_in rs in
    cond (eqb r.kind connection_kind) (r ∷ later) later

-- The number in `width` bytes of a record, from its payload's byte `start` on.
abbrev pub field_in : Piece → ℕ → ℕ → ℕ
field_in r start width = number_at r.payload start width

-- "handle (1), k (1), A (2), L (2), floor (2), ceiling (2), estimate (4)"
unfoldable pub handle_in : Piece → ℕ
unfolding little_number
handle_in r = field_in r 0 1

unfoldable pub connection_in : Piece → Connection
unfolding little_number
connection_in r =
    record {
      live = true;
      k = field_in r 1 1;
      anchor = field_in r 2 2;
      length = field_in r 4 2;
      floor = field_in r 6 2;
      ceiling = field_in r 8 2;
      estimate = field_in r 10 4;
    }

-- The tree bytes: what the records of trees hold.
unfoldable pub tree_in : List Piece → List ℕ
tree_in [] = []
tree_in (r ∷ rs) =
    let later = tree_in rs in
    cond (eqb r.kind tree_kind) (r.payload ++ later) later
