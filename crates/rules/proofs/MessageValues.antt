-- Messages: the values that follow from the request's words, worked out by hand, as one table under one statement; and the order of the checks.
use Prim.Native.Nat.{ℕ}
use mathlib.Core.Path.{◌≡◌, refl}
use mathlib.Core.List.{List, [], ◌∷◌, ◌++◌, map}
use lib.ListN.{replicate}
use Rattle.rules.specs.declared.Message.{Message}
use Rattle.rules.specs.declared.Message.TheVariants.{Default, Request, Change}
use Rattle.rules.specs.declared.Subrates.{Subrates}
use Rattle.rules.specs.declared.SubrateChange.{SubrateChange}
use Rattle.rules.specs.Answers.{refused, message, wrote}
use Rattle.rules.specs.Messages.{message_bytes}
use Rattle.rules.specs.ReadMessage.{read_message}
use Rattle.rules.specs.WriteMessage.{write_message}

abbrev pub subrates : ℕ → ℕ → ℕ → ℕ → ℕ → Subrates
subrates min max latency continuation timeout = record { min = min; max = max; latency = latency; continuation = continuation; timeout = timeout }

abbrev pub changed : ℕ → ℕ → ℕ → ℕ → ℕ → ℕ → SubrateChange
changed status handle factor latency continuation timeout =
    record { status = status; handle = handle; factor = factor; latency = latency; continuation = continuation; timeout = timeout }

-- A message and its bytes.
pub record Row : Type 0 where
  pub message : Message
  pub bytes : List ℕ

infix 70 ◌∼◌
abbrev ◌∼◌ : Message → List ℕ → Row
m ∼ bytes = record { message = m; bytes = bytes }

-- Each number in its own place, and the lower byte first.
pub messages : List Row
messages =
    Default (subrates 1 500 0 0 10) ∼ (0x7d ∷ 0x20 ∷ 0x0a ∷ 0x01 ∷ 0x00 ∷ 0xf4 ∷ 0x01 ∷ 0x00 ∷ 0x00 ∷ 0x00 ∷ 0x00 ∷ 0x0a ∷ 0x00 ∷ [])
    ∷ Default (subrates 2 9 3 4 3200) ∼ (0x7d ∷ 0x20 ∷ 0x0a ∷ 0x02 ∷ 0x00 ∷ 0x09 ∷ 0x00 ∷ 0x03 ∷ 0x00 ∷ 0x04 ∷ 0x00 ∷ 0x80 ∷ 0x0c ∷ [])
    ∷ Request 1 (subrates 8 8 0 1 600) ∼ (0x7e ∷ 0x20 ∷ 0x0c ∷ 0x01 ∷ 0x00 ∷ 0x08 ∷ 0x00 ∷ 0x08 ∷ 0x00 ∷ 0x00 ∷ 0x00 ∷ 0x01 ∷ 0x00 ∷ 0x58 ∷ 0x02 ∷ [])
    ∷ Request 3839 (subrates 2 9 3 4 3200) ∼ (0x7e ∷ 0x20 ∷ 0x0c ∷ 0xff ∷ 0x0e ∷ 0x02 ∷ 0x00 ∷ 0x09 ∷ 0x00 ∷ 0x03 ∷ 0x00 ∷ 0x04 ∷ 0x00 ∷ 0x80 ∷ 0x0c ∷ [])
    ∷ Change (changed 0 1 8 0 1 600) ∼ (0x3e ∷ 0x0c ∷ 0x23 ∷ 0x00 ∷ 0x01 ∷ 0x00 ∷ 0x08 ∷ 0x00 ∷ 0x00 ∷ 0x00 ∷ 0x01 ∷ 0x00 ∷ 0x58 ∷ 0x02 ∷ [])
    ∷ Change (changed 1 65535 0 0 0 0) ∼ (0x3e ∷ 0x0c ∷ 0x23 ∷ 0x01 ∷ 0xff ∷ 0xff ∷ 0x00 ∷ 0x00 ∷ 0x00 ∷ 0x00 ∷ 0x00 ∷ 0x00 ∷ 0x00 ∷ 0x00 ∷ [])
    ∷ []

-- They are written so, and read so.
pub table_messages : (map (λ (r : Row). message_bytes r.message) messages ≡ map (λ (r : Row). r.bytes) messages)
    × (map (λ (r : Row). read_message r.bytes) messages ≡ map (λ (r : Row). message r.message) messages)
unfolding messages message_bytes read_message
table_messages = (refl, refl)

-- ---- where a definition could be misread
-- What the lent bytes hold before.
abbrev old : ℕ → List ℕ
old n = replicate n 165

-- An event of this status with values that one of status 0 may not have.
abbrev event : ℕ → List ℕ
event status = 0x3e ∷ 0x0c ∷ 0x23 ∷ status ∷ 0xff ∷ 0xff ∷ 0x00 ∷ 0x00 ∷ 0x00 ∷ 0x00 ∷ 0x00 ∷ 0x00 ∷ 0x00 ∷ 0x00 ∷ []

-- 16 goes before 17; a byte after a message is 16.
pub reading_in_order : (read_message (event 0) ≡ refused 17)
    × (read_message (event 1) ≡ message (Change (changed 1 65535 0 0 0 0)))
    × (read_message (event 0 ++ (0 ∷ [])) ≡ refused 16)
    × (read_message (event 1 ++ (0 ∷ [])) ≡ refused 16)
    × (read_message [] ≡ refused 16)
unfolding read_message
reading_in_order = (refl, refl, refl, refl, refl)

-- A factor of 512 is forbidden, written and read; 256 is not.
pub factor_512_is_17 : (write_message (Request 0 (subrates 512 512 0 0 600)) (old 15) ≡ record { answer = refused 17; buffer = old 15 })
    × (read_message (message_bytes (Request 0 (subrates 512 512 0 0 600))) ≡ refused 17)
    × ((write_message (Request 0 (subrates 256 256 0 0 600)) (old 15)).answer ≡ wrote 15)
unfolding write_message read_message message_bytes
factor_512_is_17 = (refl, refl, refl)

-- 17 goes before 8, and nothing changes; a buffer of just the size takes the message, and what is past it stays.
pub writing_in_order : (write_message (Default (subrates 1 500 1 0 10)) (old 2) ≡ record { answer = refused 17; buffer = old 2 })
    × (write_message (Default (subrates 1 500 0 0 10)) (old 2) ≡ record { answer = refused 8; buffer = old 2 })
    × (write_message (Default (subrates 1 500 0 0 10)) (old 12) ≡ record { answer = refused 8; buffer = old 12 })
    × ((write_message (Default (subrates 1 500 0 0 10)) (old 13)).answer ≡ wrote 13)
    × (write_message (Change (changed 0 1 8 0 1 600)) (old 15) ≡ record { answer = wrote 14; buffer = message_bytes (Change (changed 0 1 8 0 1 600)) ++ old 1 })
unfolding write_message message_bytes
writing_in_order = (refl, refl, refl, refl, refl)
