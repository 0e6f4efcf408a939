-- Writing a message: the message, a lent buffer.
use Rattle.std.specs.Prelude.{ℕ, not, List, [], ◌∷◌, ltb, length}
use Rattle.rules.specs.declared.Message.{Message}
use Rattle.rules.specs.declared.Refusal.TheVariants.{BufferShort, ValuesForbidden}
use Rattle.rules.specs.Refusals.{Check, check, decided}
use Rattle.rules.specs.Answers.{Written, refusing_buffer, wrote}
use Rattle.rules.specs.Lent.{over}
use Rattle.rules.specs.Subrates.{is_allowed}
use Rattle.rules.specs.Messages.{message_bytes}

-- "17, values that the Core Specification forbids ..; 8, a short output buffer; in that order".
unfoldable pub write_checks : Message → List ℕ → List Check
unfolding is_allowed message_bytes
write_checks m buffer = check ValuesForbidden (not (is_allowed m)) ∷ check BufferShort (ltb (length buffer) (length (message_bytes m))) ∷ []

-- The message from the buffer's start, and its size. "Bytes past a written message stay."
unfoldable pub write_done : Message → List ℕ → Written
unfolding message_bytes
write_done m buffer =
    let bytes = message_bytes m in
    record { answer = wrote (length bytes); buffer = over bytes buffer }

unfoldable pub write_message : Message → List ℕ → Written
unfolding write_checks write_done decided
write_message m buffer = decided (write_checks m buffer) (refusing_buffer buffer) (write_done m buffer)
