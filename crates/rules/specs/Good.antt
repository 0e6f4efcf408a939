-- Good schedules, and the fresh one.
use Rattle.std.specs.Prelude.{ℕ, ◌≡◌, true, false, List, length, set}
use Rattle.rules.specs.declared.Connection.{Connection}
use Rattle.rules.specs.declared.Schedule.{Schedule}
use Rattle.rules.specs.Ownership.{handles, nobody, free_slots, at, taken}
use Rattle.rules.specs.TreeBytes.{tree_of}
use Rattle.rules.specs.Sound.{sound}

-- The tree of a list of connections: that of the blocks that belong to a live one.
unfoldable pub tree_for : List Connection → List ℕ
unfolding tree_of taken
tree_for cs = tree_of (taken cs)

-- "A call may assume only that the schedule given to it is sound and has the tree described below."
-- Its array has 64 places, as its type says.
pub record Good (s : Schedule) : Type 0 where
  pub places : length s.connections ≡ handles
  pub is_sound : sound s ≡ true
  pub has_tree : s.tree.bytes ≡ tree_for s.connections

-- A free slot is all zeros: no part of what a call may assume, and kept by every call.
abbrev pub FreeSlotsZero : Schedule → Type 0
FreeSlotsZero s = (h : ℕ) → (at s.connections h).live ≡ false → at s.connections h ≡ nobody

-- The fresh schedule: no handle has a connection.
unfoldable pub fresh : Schedule
unfolding tree_for
fresh =
    let cs = free_slots in
    let bytes = tree_for cs in
    record { connections = cs; tree = record { bytes = bytes } }

-- A schedule with other connections: the tree follows them, and whatever else a schedule has stays.
unfoldable pub with_connections : Schedule → List Connection → Schedule
unfolding tree_for
with_connections s cs =
    let bytes = tree_for cs in
    record { connections = cs; tree = record { bytes = bytes } }

-- A schedule with another connection for one handle.
abbrev pub with_connection : Schedule → ℕ → Connection → Schedule
with_connection s handle c = with_connections s (set s.connections handle c)
