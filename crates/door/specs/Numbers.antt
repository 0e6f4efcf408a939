-- An answer in numbers.
use Rattle.std.specs.Prelude.{ℕ, ◌≡◌}
use Rattle.rules.specs.Answers.{Answer, refused, ok, dropped, kept, grown, shrunk, tight, owner, idle, slots, saved, loaded, reported, message, wrote, tidied}
use Rattle.rules.specs.declared.Subrates.{Subrates}
use Rattle.rules.specs.declared.SubrateChange.{SubrateChange}
use Rattle.rules.specs.declared.Message.{Message}
use Rattle.rules.specs.declared.Message.TheVariants.{Default, Request, Change}
use Rattle.door.specs.declared.saying.Kind.{Kind}
use Rattle.door.specs.declared.saying.Kind.TheVariants.{Refused, Placed, Dropped, Kept, Grown}
use Rattle.door.specs.declared.saying.Kind.TheVariants.{Shrunk, Tight, Owner, Idle, Slots, Saved, Loaded}
use Rattle.door.specs.declared.saying.Kind.TheVariants.{Reported, Default as DefaultSubrates}
use Rattle.door.specs.declared.saying.Kind.TheVariants.{Request as SubrateRequest}
use Rattle.door.specs.declared.saying.Kind.TheVariants.{Change as SubrateChanged, Wrote, Tidied}
use Rattle.door.specs.declared.Said.{Said}
use Rattle.door.specs.declared.Read.{Read}

-- The number of each kind, for ever.
abbrev pub kind_number : Kind → ℕ
kind_number Refused = 1
kind_number Placed = 2
kind_number Dropped = 3
kind_number Kept = 4
kind_number Grown = 5
kind_number Shrunk = 6
kind_number Tight = 7
kind_number Owner = 8
kind_number Idle = 9
kind_number Slots = 10
kind_number Saved = 11
kind_number Loaded = 12
kind_number Reported = 13
kind_number DefaultSubrates = 14
kind_number SubrateRequest = 15
kind_number SubrateChanged = 16
kind_number Wrote = 17
kind_number Tidied = 18

-- A kind and three values.
abbrev pub said_as : ℕ → ℕ → ℕ → ℕ → Said
said_as k a b c = record { kind = k; first = a; second = b; third = c }

-- The kind of each message.
abbrev pub kind_of : Message → ℕ
kind_of (Default v) = 14
kind_of (Request handle v) = 15
kind_of (Change e) = 16

-- The kind of each answer, numbered for ever, and its values in the sheet's order; 0 where it has none. No answer has the kind 0. The values of a
-- message stand beside it.
abbrev pub in_numbers : Answer → Said
in_numbers (refused n) = said_as 1 n 0 0
in_numbers (ok F A L) = said_as 2 F A L
in_numbers dropped = said_as 3 0 0 0
in_numbers (kept L) = said_as 4 L 0 0
in_numbers (grown L) = said_as 5 L 0 0
in_numbers (shrunk L) = said_as 6 L 0 0
in_numbers (tight L) = said_as 7 L 0 0
in_numbers (owner h) = said_as 8 h 0 0
in_numbers idle = said_as 9 0 0 0
in_numbers (slots n) = said_as 10 n 0 0
in_numbers (saved n) = said_as 11 n 0 0
in_numbers (loaded n) = said_as 12 n 0 0
in_numbers (reported n) = said_as 13 n 0 0
in_numbers (message m) = said_as (kind_of m) 0 0 0
in_numbers (wrote n) = said_as 17 n 0 0
in_numbers (tidied n) = said_as 18 n 0 0

-- What is said is the answer, in numbers.
abbrev pub InNumbers : Answer → Said → Type 0
InNumbers answer r = r ≡ in_numbers answer

-- ---- what was read
abbrev pub no_subrates : Subrates
no_subrates = record { min = 0; max = 0; latency = 0; continuation = 0; timeout = 0 }

abbrev pub no_change : SubrateChange
no_change = record { status = 0; handle = 0; factor = 0; latency = 0; continuation = 0; timeout = 0 }

abbrev pub read_as : Said → ℕ → Subrates → SubrateChange → Read
read_as said handle v e = record { said = said; handle = handle; subrates = v; change = e }

-- The values of a message beside what is said; zeros where it has none.
abbrev pub message_parts : Message → Read
message_parts (Default v) = read_as (in_numbers (message (Default v))) 0 v no_change
message_parts (Request handle v) = read_as (in_numbers (message (Request handle v))) handle v no_change
message_parts (Change e) = read_as (in_numbers (message (Change e))) 0 no_subrates e

abbrev pub no_message : Said → Read
no_message said = read_as said 0 no_subrates no_change

-- An answer in numbers, with the values of the message that it is.
abbrev pub in_parts : Answer → Read
in_parts (message m) = message_parts m
in_parts (refused n) = no_message (in_numbers (refused n))
in_parts (ok F A L) = no_message (in_numbers (ok F A L))
in_parts dropped = no_message (in_numbers dropped)
in_parts (kept L) = no_message (in_numbers (kept L))
in_parts (grown L) = no_message (in_numbers (grown L))
in_parts (shrunk L) = no_message (in_numbers (shrunk L))
in_parts (tight L) = no_message (in_numbers (tight L))
in_parts (owner h) = no_message (in_numbers (owner h))
in_parts idle = no_message (in_numbers idle)
in_parts (slots n) = no_message (in_numbers (slots n))
in_parts (saved n) = no_message (in_numbers (saved n))
in_parts (loaded n) = no_message (in_numbers (loaded n))
in_parts (reported n) = no_message (in_numbers (reported n))
in_parts (wrote n) = no_message (in_numbers (wrote n))
in_parts (tidied n) = no_message (in_numbers (tidied n))
