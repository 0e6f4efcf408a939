-- Reading a message: bytes.
use Rattle.std.specs.Prelude.{ℕ, not, List, [], ◌∷◌}
use Rattle.std.proofs.Math.Option.{get_or}
use Rattle.rules.specs.declared.Message.{Message}
use Rattle.rules.specs.declared.Message.TheVariants.{Default}
use Rattle.rules.specs.declared.Refusal.TheVariants.{MessageWrong, ValuesForbidden}
use Rattle.rules.specs.Below.{is_none}
use Rattle.rules.specs.Refusals.{Check, check, decided}
use Rattle.rules.specs.Answers.{Answer, refused, message}
use Rattle.rules.specs.Subrates.{is_allowed}
use Rattle.rules.specs.Messages.{subrates_at, message_in}

-- The message that the bytes are; where there is none, 16 refuses before it counts.
unfoldable pub message_for : List ℕ → Message
unfolding message_in
message_for bytes = get_or (message_in bytes) (Default (subrates_at bytes 3))

-- "16, wrong code or size": the bytes of no message, whatever its values; "17, values that the Core Specification forbids, alone or together".
unfoldable pub read_checks : List ℕ → List Check
unfolding message_in message_for is_allowed
read_checks bytes = check MessageWrong (is_none (message_in bytes)) ∷ check ValuesForbidden (not (is_allowed (message_for bytes))) ∷ []

unfoldable pub read_message : List ℕ → Answer
unfolding read_checks message_for decided
read_message bytes = decided (read_checks bytes) refused (message (message_for bytes))
