-- The bytes of a subrate message: the Core Specification, Vol 4, Part E, 7.8.123, 7.8.124 and 7.7.65.35. "A message begins at its opcode or event code".
use Rattle.std.specs.Prelude.{ℕ, ◌+◌, cond, List, [], ◌∷◌, ◌++◌, length}
use Rattle.std.proofs.Math.Option.{Option, none, some}
use Rattle.rules.specs.declared.Subrates.{Subrates}
use Rattle.rules.specs.declared.SubrateChange.{SubrateChange}
use Rattle.rules.specs.declared.Message.{Message}
use Rattle.rules.specs.declared.Message.TheVariants.{Default, Request, Change}
use Rattle.rules.specs.Bytes.{little, little_number, number_at, same}

-- ---- its values, in the order of the bytes
abbrev pub subrate_values : Subrates → List ℕ
subrate_values v = v.min ∷ v.max ∷ v.latency ∷ v.continuation ∷ v.timeout ∷ []

abbrev pub change_values : SubrateChange → List ℕ
change_values e = e.handle ∷ e.factor ∷ e.latency ∷ e.continuation ∷ e.timeout ∷ []

abbrev pub values_of : Message → List ℕ
values_of (Default v) = subrate_values v
values_of (Request handle v) = handle ∷ subrate_values v
values_of (Change e) = e.status ∷ change_values e

-- ---- a message, written out
-- Numbers of two bytes each, little-endian.
unfoldable pub two_bytes_each : List ℕ → List ℕ
unfolding little
two_bytes_each [] = []
two_bytes_each (n ∷ ns) = little 2 n ++ two_bytes_each ns

-- A command: its opcode in two bytes, how many bytes of parameters follow, and these.
unfoldable pub command_bytes : ℕ → List ℕ → List ℕ
unfolding little
command_bytes opcode parameters = little 2 opcode ++ little 1 (length parameters) ++ parameters

-- An event: its code in one byte, and then the same.
unfoldable pub event_bytes : ℕ → List ℕ → List ℕ
unfolding little
event_bytes code parameters = little 1 code ++ little 1 (length parameters) ++ parameters

-- The default-subrate command 207D, the subrate request command 207E, and 23, the subrate change, of the events 3E, all hexadecimal.
unfoldable pub message_bytes : Message → List ℕ
unfolding two_bytes_each command_bytes event_bytes little
message_bytes (Default v) = command_bytes 0x207d (two_bytes_each (subrate_values v))
message_bytes (Request handle v) = command_bytes 0x207e (two_bytes_each (handle ∷ subrate_values v))
message_bytes (Change e) = event_bytes 0x3e (little 1 0x23 ++ little 1 e.status ++ two_bytes_each (change_values e))

-- ---- and read
-- The five numbers of a command stand side by side from a place on,
abbrev pub subrates_at : List ℕ → ℕ → Subrates
subrates_at bytes at =
    let n : ℕ → ℕ = λ i. number_at bytes (at + i) 2 in
    record { min = n 0; max = n 2; latency = n 4; continuation = n 6; timeout = n 8 }

-- and those of an event behind its status.
abbrev pub change_at : List ℕ → ℕ → SubrateChange
change_at bytes at =
    let n : ℕ → ℕ = λ i. number_at bytes (at + i) 2 in
    record { status = number_at bytes at 1; handle = n 1; factor = n 3; latency = n 5; continuation = n 7; timeout = n 9 }

-- What the bytes could be, a line for each message: its values stand behind three bytes.
abbrev pub candidates : List ℕ → List Message
candidates bytes =
    Default (subrates_at bytes 3)
    ∷ Request (number_at bytes 3 2) (subrates_at bytes 5)
    ∷ Change (change_at bytes 3)
    ∷ []

-- The first of some messages that is the bytes when written out.
unfoldable pub written_as : List ℕ → List Message → Option Message
unfolding message_bytes same
written_as bytes [] = none
written_as bytes (m ∷ ms) =
    let later = written_as bytes ms in
    cond (same (message_bytes m) bytes) (some m) later

-- Bytes are read as the message that they are when written out, if any.
unfoldable pub message_in : List ℕ → Option Message
unfolding written_as little_number
message_in bytes = written_as bytes (candidates bytes)
