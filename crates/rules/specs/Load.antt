-- Load: image bytes.
use Rattle.std.specs.Prelude.{ℕ, Bool, true, false, not, ◌||◌, ◌&&◌, List, [], ◌∷◌, map, ltb, set}
use Rattle.rules.specs.declared.Connection.{Connection}
use Rattle.rules.specs.declared.Schedule.{Schedule}
use Rattle.rules.specs.declared.Refusal.TheVariants.{RecordsWrong, NumbersUnsound, FactorIllegal, BlockOwnedTwice, TreeDiffers}
use Rattle.rules.specs.Ownership.{handles, largest_k, free_slots}
use Rattle.rules.specs.Sound.{numbers_within, apart}
use Rattle.rules.specs.Good.{tree_for, fresh, with_connections}
use Rattle.rules.specs.Refusals.{Check, check, decided}
use Rattle.rules.specs.Answers.{Outcome, refusing, loaded}
use Rattle.rules.specs.Bytes.{same}
use Rattle.rules.specs.Records.{Piece, pieces_of}
use Rattle.rules.specs.Framing.{count_in, records_wrong}
use Rattle.rules.specs.Fields.{connections_in, handle_in, connection_in, tree_in}

-- "Check 10 asks for handle ≤ 63, k ≤ 9, A < F and the bounds of a sound schedule": the largest k that a record may say and be "otherwise sound".
abbrev pub largest_record_k : ℕ
largest_record_k = 9

-- Of each record: the handle, and the bounds with k to `most`.
unfoldable pub all_numbers_within : ℕ → List Piece → Bool
unfolding handle_in connection_in numbers_within
all_numbers_within most [] = true
all_numbers_within most (r ∷ rs) = ltb (handle_in r) handles && numbers_within most (connection_in r) && all_numbers_within most rs

-- Each number is below the next.
unfoldable pub rising : List ℕ → Bool
rising [] = true
rising (n ∷ []) = true
rising (n ∷ (m ∷ ns)) = ltb n m && rising (m ∷ ns)

-- So it is of every record, and the handles strictly rise.
unfoldable pub records_within : ℕ → List Piece → Bool
unfolding all_numbers_within rising handle_in
records_within most rs = all_numbers_within most rs && rising (map handle_in rs)

-- 10: "a connection's numbers not sound, or handles not strictly rising"
unfoldable pub numbers_unsound : List Piece → Bool
unfolding connections_in records_within
numbers_unsound rs = not (records_within largest_record_k (connections_in rs))

-- Some record says a k that no connection may have.
unfoldable pub any_illegal : List Piece → Bool
unfolding connection_in
any_illegal [] = false
any_illegal (r ∷ rs) = ltb largest_k (connection_in r).k || any_illegal rs

-- 18: "an otherwise sound record with k 9", asked of every record that has a k. Where one is not otherwise sound, 10 has refused before.
unfoldable pub factor_illegal : List Piece → Bool
unfolding connections_in any_illegal
factor_illegal rs = any_illegal (connections_in rs)

-- The connections of the records, each at its handle.
unfoldable pub at_handles : List Piece → List Connection
unfolding handle_in connection_in
at_handles [] = free_slots
at_handles (r ∷ rs) = set (at_handles rs) (handle_in r) (connection_in r)

unfoldable pub connections_of : List Piece → List Connection
unfolding at_handles connections_in
connections_of rs = at_handles (connections_in rs)

-- "Checks 9, 10, 11, 12, each over the whole image before the next", and 18 "after 10 and before 11".
unfoldable pub load_checks : List ℕ → List Check
unfolding pieces_of connections_of records_wrong numbers_unsound factor_illegal apart tree_in tree_for same
load_checks bytes =
    let rs = pieces_of bytes in
    let cs = connections_of rs in
    check RecordsWrong (records_wrong bytes)
    ∷ check NumbersUnsound (numbers_unsound rs)
    ∷ check FactorIllegal (factor_illegal rs)
    ∷ check BlockOwnedTwice (not (apart cs))
    ∷ check TreeDiffers (not (same (tree_in rs) (tree_for cs)))
    ∷ []

-- "Accepted, the image's schedule replaces the old one; the answer is n."
unfoldable pub load_done : List ℕ → Outcome
unfolding pieces_of connections_of fresh with_connections count_in
load_done bytes =
    let rs = pieces_of bytes in
    let after = with_connections fresh (connections_of rs) in
    record { answer = loaded (count_in rs); schedule = after }

unfoldable pub load : Schedule → List ℕ → Outcome
unfolding load_checks load_done decided
load s bytes = decided (load_checks bytes) (refusing s) (load_done bytes)
