-- What the Bluetooth Core Specification (version 5.4) says, as far as it is used here.
use Rattle.std.specs.Prelude.{ℕ, ◌*◌, ◌^◌, ◌≤◌, Bool, ◌&&◌, ◌≡◌, leb, ℤ, pos, ◌-ℤ◌, ◌*ℤ◌}
use Rattle.rules.specs.Time.{slot_micros, block_slots}

-- A connection interval is a whole number of units of 1.25 ms, a slot each.
abbrev pub interval_micros : ℕ → ℕ
interval_micros units = units * slot_micros

-- The least is 6 units, 7.5 ms.
abbrev pub least_interval : ℕ
least_interval = 6

-- An interval has 6 to 3,200 units: 7.5 ms to 4 s.
unfoldable pub is_interval : ℕ → Bool
is_interval units = leb least_interval units && leb units 3200

-- "A host names a smallest and a largest interval, as the Core Specification's connection parameters do": each is one, and the smallest is not above
-- the largest.
unfoldable pub is_range : ℕ → ℕ → Bool
unfolding is_interval
is_range smallest largest = is_interval smallest && is_interval largest && leb smallest largest

-- "The base interval is one block."
abbrev pub base_interval : ℕ
base_interval = block_slots

-- connSubrateFactor, connSubrateBaseEvent and connContinuationNumber of one connection.
pub record Subrating : Type 0 where
  pub factor : ℕ
  pub base_event : ℕ
  pub continuation : ℕ

-- Subrated events are connSubrateFactor base intervals apart: so many units.
abbrev pub subrated_interval : Subrating → ℕ
subrated_interval r = r.factor * base_interval

-- ---- the ranges of a subrating's values, and of a handle
-- A subrate factor is 1 to 500.
abbrev pub least_factor : ℕ
least_factor = 1

abbrev pub largest_factor : ℕ
largest_factor = 500

-- The peripheral latency is 0 to 499,
abbrev pub largest_latency : ℕ
largest_latency = 499

-- the continuation number 0 to 499,
abbrev pub largest_continuation : ℕ
largest_continuation = 499

-- and the supervision timeout 10 to 3,200 units of 10 ms.
abbrev pub least_timeout : ℕ
least_timeout = 10

abbrev pub largest_timeout : ℕ
largest_timeout = 3200

-- The factor times one more than the latency is at most 500.
abbrev pub largest_product : ℕ
largest_product = 500

-- The handle by which host and controller name a connection is 0 to 3,839 (0EFF hexadecimal).
abbrev pub largest_hci_handle : ℕ
largest_hci_handle = 3839

-- ---- subrated events
-- The connection event counter has 16 bits: it wraps here. Below, counters run over all integers.
abbrev pub event_counter : ℕ
event_counter = 2 ^ 16

-- A connection event is a subrated event exactly if its counter less connSubrateBaseEvent is a multiple of
-- connSubrateFactor.
abbrev pub Subrated : Subrating → ℤ → Type 0
Subrated r event = (q : ℤ) × (event -ℤ pos r.base_event ≡ q *ℤ pos r.factor)

-- An event is reserved for the connection exactly if it is a subrated event, or one of the connContinuationNumber events after one: the event j
-- before it is a subrated one, with j at most connContinuationNumber. Core uses a continuation event only after a packet with data, and each such
-- packet moves the window on; here that window is as long as a run, and all of it is kept for the connection.
abbrev pub Reserved : Subrating → ℤ → Type 0
Reserved r event = (j : ℕ) × (j ≤ r.continuation) × Subrated r (event -ℤ pos j)
