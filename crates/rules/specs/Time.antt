-- Slots, blocks and the list.
use Rattle.std.specs.Prelude.{ℕ, ◌*◌, ◌+◌, ◌-◌, ◌%◌}

-- "A slot is 1.25 ms."
abbrev pub slot_micros : ℕ
slot_micros = 1250

-- "A block is 6 slots (7.5 ms, 7,500 µs)."
abbrev pub block_slots : ℕ
block_slots = 6

abbrev pub block_micros : ℕ
block_micros = block_slots * slot_micros

-- "The list has 512 blocks (3,072 slots, 3.84 s) and repeats for ever."
abbrev pub list_blocks : ℕ
list_blocks = 512

-- "the 2.5 ms guard"
abbrev pub guard_micros : ℕ
guard_micros = 2500

-- (a - b) mod F, "the remainder taken from 0 to F - 1".
unfoldable pub minus_mod : ℕ → ℕ → ℕ → ℕ
minus_mod a b F = (a + (F - b % F)) % F
