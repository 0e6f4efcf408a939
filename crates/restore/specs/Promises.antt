-- What the checks of an image's connections promise.
use Rattle.std.specs.Prelude.{ℕ, suc, ◌≡◌, true, false, List, length, take, Result, Ok, Err}
use Rattle.rules.specs.Below.{largest}
use Rattle.rules.specs.Sound.{apart}
use Rattle.rules.specs.Good.{fresh, with_connections}
use Rattle.rules.specs.Records.{Piece, begin, pieces_of}
use Rattle.rules.specs.Fields.{connections_in}
use Rattle.rules.specs.Load.{at_handles}
use Rattle.rules.specs.declared.Schedule.{Schedule}

-- What f says of a record that has this payload.
abbrev pub Reads : {A : Type 0} → (Piece → A) → List ℕ → A → Type 0
Reads f payload said = (r : Piece) → r.payload ≡ payload → said ≡ f r

-- The records of the connections in the bytes.
abbrev pub records : List ℕ → List Piece
records bytes = connections_in (pieces_of bytes)

-- The most of the records, from the first on, of which no two own one block.
abbrev pub most_apart : List Piece → ℕ
most_apart rs = largest (length rs) (λ i. apart (at_handles (take i rs)))

-- Whether no two of all do; and where the record after the most begins.
abbrev pub Parts : List ℕ → Result ℕ ℕ → Type 0
Parts bytes (Ok end) = (apart (at_handles (records bytes)) ≡ true) × (end ≡ begin (pieces_of bytes) (suc (most_apart (records bytes))))
Parts bytes (Err end) = (apart (at_handles (records bytes)) ≡ false) × (end ≡ begin (pieces_of bytes) (suc (most_apart (records bytes))))

-- The connections of the most are restored, with their tree.
pub record Restores (bytes : List ℕ) (new : Schedule) (r : Result ℕ ℕ) : Type 0 where
  pub is : new ≡ with_connections fresh (at_handles (take (most_apart (records bytes)) (records bytes)))
  pub says : Parts bytes r
