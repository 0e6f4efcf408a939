-- Tidy: "takes the live connections by rising factor, equal factors by rising handle, and places each on an empty schedule by the admission order".
use Rattle.std.specs.Prelude.{ℕ, suc, ◌/◌, Bool, not, ◌&&◌, List, [], ◌∷◌, ◌++◌, map, ltb, eqb, length, set}
use Rattle.std.proofs.Math.Option.{Option, none, some, get_or, Option-elim}
use Rattle.rules.specs.declared.Connection.{Connection}
use Rattle.rules.specs.declared.Schedule.{Schedule}
use Rattle.rules.specs.declared.Refusal.TheVariants.{NoAnchorForAll, ListShort}
use Rattle.rules.specs.Below.{is_none, in_turn, those}
use Rattle.rules.specs.Ownership.{handles, largest_k, free_slots, at, taken}
use Rattle.rules.specs.Mirror.{mirrored}
use Rattle.rules.specs.Good.{with_connections}
use Rattle.rules.specs.Refusals.{Check, check, decided}
use Rattle.rules.specs.Answers.{Listed, refusing_list, tidied}
use Rattle.rules.specs.Admit.{first_open}
use Rattle.rules.specs.Lent.{over}

-- ---- the order
-- Whether a handle has a live connection with this k,
abbrev pub at_depth : List Connection → ℕ → ℕ → Bool
at_depth cs k h = (at cs h).live && eqb (at cs h).k k

-- "equal factors by rising handle": the handles that have one;
unfoldable pub of_depth : List Connection → ℕ → List ℕ
unfolding those
of_depth cs k = those handles (at_depth cs k)

-- "by rising factor": for each k in turn.
unfoldable pub tidy_order : List Connection → List ℕ
unfolding in_turn of_depth
tidy_order cs = in_turn (suc largest_k) (of_depth cs)

-- ---- the placing
-- "places each .. by the admission order, with its present length in the place of the floor": where a connection goes beside those placed so far.
unfoldable pub placed_next : List Connection → Connection → Option ℕ
unfolding first_open taken mirrored
placed_next placed c = Option-elim (first_open (taken placed) c.k c.length) none (λ p. some (mirrored c.k p))

-- "nothing else of a connection changes"
abbrev pub with_anchor : Connection → ℕ → Connection
with_anchor c A = record { live = c.live; k = c.k; anchor = A; length = c.length; floor = c.floor; ceiling = c.ceiling; estimate = c.estimate }

-- The connections of these handles, one after the other beside those placed; none as soon as one finds no anchor.
unfoldable pub place_all : List Connection → List ℕ → List Connection → Option (List Connection)
unfolding placed_next Option-elim
place_all cs [] placed = some placed
place_all cs (h ∷ hs) placed = Option-elim (placed_next placed (at cs h)) none (λ A. place_all cs hs (set placed h (with_anchor (at cs h) A)))

-- "on an empty schedule": from 64 free slots, all in that order.
unfoldable pub arranged : List Connection → Option (List Connection)
unfolding tidy_order place_all
arranged cs = place_all cs (tidy_order cs) free_slots

-- The connections afterwards; where one finds no anchor, 19 refuses before they count.
abbrev pub anew : List Connection → List Connection
anew cs = get_or (arranged cs) cs

-- ---- the moves
-- "the handle, the old anchor and the new one"
pub record Move : Type 0 where
  pub handle : ℕ
  pub old : ℕ
  pub new : ℕ

-- "how many anchors differ"
abbrev pub differs : Connection → Connection → Bool
differs old new = not (eqb old.anchor new.anchor)

-- Whether the anchor of a live handle does.
abbrev pub has_moved : List Connection → List Connection → ℕ → Bool
has_moved old new h = (at old h).live && differs (at old h) (at new h)

-- "for each of those, by rising handle":
unfoldable pub movers : List Connection → List Connection → List ℕ
unfolding those
movers old new = those handles (has_moved old new)

abbrev pub move_of : List Connection → List Connection → ℕ → Move
move_of old new h = record { handle = h; old = (at old h).anchor; new = (at new h).anchor }

unfoldable pub moves : List Connection → List Connection → List Move
unfolding movers
moves old new = map (move_of old new) (movers old new)

-- ---- the lent list
-- How many numbers an entry has,
abbrev pub move_width : ℕ
move_width = 3

-- and which: the numbers that a move is in the list.
abbrev pub entry_of : Move → List ℕ
entry_of m = m.handle ∷ m.old ∷ m.new ∷ []

unfoldable pub entries : List Move → List ℕ
entries [] = []
entries (m ∷ ms) = entry_of m ++ entries ms

-- How many entries a list has: numbers left over at its end belong to none.
abbrev pub entries_in : List ℕ → ℕ
entries_in list = length list / move_width

-- ---- the call
-- "19, exactly when some connection in that order finds no anchor; 14, a list shorter than the moves, after 19"
unfoldable pub tidy_checks : List Connection → List ℕ → List Check
unfolding arranged moves
tidy_checks cs list = check NoAnchorForAll (is_none (arranged cs)) ∷ check ListShort (ltb (entries_in list) (length (moves cs (anew cs)))) ∷ []

-- "the new anchors take effect together; .. It answers how many anchors differ, and writes .. into a lent list; entries past them are unchanged."
unfoldable pub tidy_done : Schedule → List ℕ → Listed
unfolding arranged moves entries with_connections
tidy_done s list =
    let new = anew s.connections in
    let moved = moves s.connections new in
    let after = with_connections s new in
    record { answer = tidied (length moved); schedule = after; list = over (entries moved) list }

unfoldable pub tidy : Schedule → List ℕ → Listed
unfolding tidy_checks tidy_done decided
tidy s list = decided (tidy_checks s.connections list) (refusing_list s list) (tidy_done s list)
