-- What the reading of an image's frame promises.
use Rattle.std.specs.Prelude.{ℕ, ◌+◌, ◌≤◌, ◌≡◌, Bool, true, false, List, ◌++◌, length, take, drop, replicate, Result, Ok, Err}
use Rattle.rules.specs.declared.Refusal.{Refusal}
use Rattle.rules.specs.declared.Refusal.TheVariants.{RecordsWrong}
use Rattle.rules.specs.Refusals.{number}
use Rattle.rules.specs.Steps.{Step, gives, places, passes, refuses}
use Rattle.rules.specs.Bytes.{little_number}
use Rattle.rules.specs.Records.{header_size}
use Rattle.rules.specs.Form.{Head, connection_head}
use Rattle.rules.specs.Framing.{records_are, records_wrong, Framed}
use Rattle.frame.specs.declared.Record.{Record}

-- The header at a cursor says this kind and this size, and the whole record is there.
pub record HeadSays (bytes : List ℕ) (at kind size : ℕ) : Type 0 where
  pub kind_is : little_number (take 2 (drop (at + 2) bytes)) ≡ kind
  pub size_is : little_number (take 2 (drop at bytes)) ≡ size
  pub fits : at + (header_size + size) ≤ length bytes

-- The record at a cursor; or no whole one is there.
abbrev pub Heads : List ℕ → ℕ → Result Record Refusal → Type 0
Heads bytes at (Ok r) = HeadSays bytes at r.kind r.size × (r.next ≡ at + (header_size + r.size))
Heads bytes at (Err e) = (e ≡ RecordsWrong) × ((kind size : ℕ) → HeadSays bytes at kind size → ⊥)

-- The record that is asked for; or it is not there.
abbrev pub PassesOne : List ℕ → ℕ → ℕ → ℕ → Result ℕ Refusal → Type 0
PassesOne bytes at kind size (Ok next) = HeadSays bytes at kind size × (next ≡ at + (header_size + size))
PassesOne bytes at kind size (Err e) = (e ≡ RecordsWrong) × (HeadSays bytes at kind size → ⊥)

-- n records of connections are asked for, and others after them: it is up to those, from the next cursor on; or one of the n is not there.
abbrev pub connections_then : ℕ → List (Head → Bool) → List (Head → Bool)
connections_then n later = replicate n connection_head ++ later

abbrev pub PassesAll : List ℕ → ℕ → ℕ → Result ℕ Refusal → Type 0
PassesAll bytes at n (Ok next) = ((later : List (Head → Bool)) → records_are (connections_then n later) (drop at bytes) ≡ records_are later (drop next bytes)) × (next ≤ length bytes)
PassesAll bytes at n (Err e) = (e ≡ RecordsWrong) × ((later : List (Head → Bool)) → records_are (connections_then n later) (drop at bytes) ≡ false)

-- The sheet's number and values for every case.
abbrev pub of_frame : Result ℕ Refusal → Step
of_frame (Ok n) = gives n
of_frame (Err r) = refuses (number r)

-- Check 9: the bytes are an image's records and count n; or they are not, and it refuses.
abbrev pub Frames : List ℕ → Step → Type 0
Frames bytes (gives n) = Framed bytes n
Frames bytes (refuses n) = (n ≡ number RecordsWrong) × (records_wrong bytes ≡ true)
Frames bytes (places k A) = ⊥
Frames bytes passes = ⊥
