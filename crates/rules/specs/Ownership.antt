-- Which block belongs to which connection.
use Rattle.std.specs.Prelude.{ℕ, suc, ◌^◌, ◌-◌, Bool, false, ◌||◌, ◌&&◌, List, [], ◌∷◌, ltb, get_or, replicate}
use Rattle.rules.specs.declared.Connection.{Connection}
use Rattle.rules.specs.Time.{minus_mod}
use Rattle.rules.specs.Core.{Subrating}

-- "A connection has a handle 0 to 63":
abbrev pub last_handle : ℕ
last_handle = 63

abbrev pub handles : ℕ
handles = suc last_handle

-- "a factor F = 2^k", and "k in an admission and in a sound schedule is now at most 8":
abbrev pub largest_k : ℕ
largest_k = 8

abbrev pub factor : Connection → ℕ
factor c = 2 ^ c.k

-- A free slot: a handle with no connection.
abbrev pub nobody : Connection
nobody = record { live = false; k = 0; anchor = 0; length = 0; floor = 0; ceiling = 0; estimate = 0 }

-- 64 of them.
abbrev pub free_slots : List Connection
free_slots = replicate handles nobody

-- The connection of a handle.
abbrev pub at : List Connection → ℕ → Connection
at cs h = get_or cs h nobody

-- "Block b (a whole number from 0) belongs to it exactly if (b - A) mod F is less than L, the remainder taken from 0 to
-- F - 1. A run may thus go round the end of the cycle."
unfoldable pub belongs : Connection → ℕ → Bool
unfolding minus_mod
belongs c b = ltb (minus_mod b c.anchor (factor c)) c.length

-- "a subrated event is the base event at an anchor, and the L - 1 blocks after it are its continuation events"
abbrev pub subrating : Connection → Subrating
subrating c = record { factor = factor c; base_event = c.anchor; continuation = c.length - 1 }

-- Block b belongs to the live connection c.
unfoldable pub owns : Connection → ℕ → Bool
unfolding belongs
owns c b =
    let its = belongs c b in
    c.live && its

-- Block b belongs to a live connection.
unfoldable pub taken : List Connection → ℕ → Bool
unfolding owns
taken [] b = false
taken (c ∷ cs) b =
    let others = taken cs b in
    owns c b || others

-- Block b belongs to two live connections.
unfoldable pub owned_twice : List Connection → ℕ → Bool
unfolding taken
owned_twice [] b = false
owned_twice (c ∷ cs) b =
    let others = taken cs b in
    let later = owned_twice cs b in
    owns c b && others || later
