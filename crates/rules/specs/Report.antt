-- Report: handle, µs used in the last run, 0 to 2^32 - 1.
use Rattle.std.specs.Prelude.{ℕ, ◌+◌, ◌*◌, ◌%◌, Bool, List, [], ◌∷◌, ltb}
use Rattle.rules.specs.declared.Connection.{Connection}
use Rattle.rules.specs.declared.Schedule.{Schedule}
use Rattle.rules.specs.declared.Refusal.TheVariants.{HandleAbove63, HandleNotLive, SampleAboveRun}
use Rattle.rules.specs.Time.{block_micros}
use Rattle.rules.specs.Ownership.{factor, taken}
use Rattle.rules.specs.Classes.{free}
use Rattle.rules.specs.Good.{with_connections, with_connection}
use Rattle.rules.specs.Refusals.{Check, check, decided}
use Rattle.rules.specs.Answers.{Answer, Outcome, refusing}
use Rattle.rules.specs.Handles.{connection, above_handles, not_live}
use Rattle.rules.specs.Meter.{moved, aimed, change, new_length}

-- 7: "sample above L × 7,500"
abbrev pub sample_above : Connection → ℕ → Bool
sample_above c sample = ltb (c.length * block_micros) sample

-- Room to grow: "the class of (A + L) mod F is free".
unfoldable pub room_to_grow : (ℕ → Bool) → Connection → Bool
unfolding free
room_to_grow blocks c = free blocks c.k ((c.anchor + c.length) % factor c)

-- The connection with its meter moved.
abbrev pub metered : Connection → ℕ → ℕ → Connection
metered c length estimate = record { live = c.live; k = c.k; anchor = c.anchor; length = length; floor = c.floor; ceiling = c.ceiling; estimate = estimate }

-- "Checks 1, 3, 7."
abbrev pub report_checks : Schedule → ℕ → ℕ → List Check
report_checks s handle sample =
    check HandleAbove63 (above_handles handle)
    ∷ check HandleNotLive (not_live s handle)
    ∷ check SampleAboveRun (sample_above (connection s handle) sample)
    ∷ []

-- The target of connection c after a sample.
abbrev pub aim : Connection → ℕ → ℕ
aim c sample = aimed c.estimate sample c.floor c.ceiling

-- What a report of the sample says of connection c, and the length that it leaves.
unfoldable pub report_answer : (ℕ → Bool) → Connection → ℕ → Answer
unfolding moved change room_to_grow
report_answer blocks c sample = change c.length (aim c sample) (room_to_grow blocks c)

unfoldable pub report_length : (ℕ → Bool) → Connection → ℕ → ℕ
unfolding moved new_length room_to_grow
report_length blocks c sample = new_length c.length (aim c sample) (room_to_grow blocks c)

-- "The new estimate is stored in all four."
unfoldable pub report_done : Schedule → ℕ → ℕ → Outcome
unfolding report_answer report_length taken moved with_connections
report_done s handle sample =
    let c = connection s handle in
    let blocks = taken s.connections in
    let after = with_connection s handle (metered c (report_length blocks c sample) (moved c.estimate sample)) in
    record { answer = report_answer blocks c sample; schedule = after }

unfoldable pub report : Schedule → ℕ → ℕ → Outcome
unfolding report_done decided
report s handle sample = decided (report_checks s handle sample) (refusing s) (report_done s handle sample)
