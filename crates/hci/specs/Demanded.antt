-- The customer's words, of any reading and any writing that keeps its promise.
-- The two calls take no schedule, so they stand in no history.
use Rattle.std.specs.Prelude.{ℕ, ◌≤◌, ◌≡◌, List, length, take, Result, Ok}
use Rattle.rules.specs.declared.Refusal.{Refusal}
use Rattle.rules.specs.declared.Message.{Message}
use Rattle.rules.specs.Refusals.{number}
use Rattle.rules.specs.Answers.{refused, of_reading, of_writing}
use Rattle.rules.specs.Lent.{over}
use Rattle.messages.specs.Fitting.{FailedFits}
use Rattle.hci.specs.Promises.{Reads, Writes}

-- Demand 1. "Every call takes all numbers and all bytes, and ends": each input has a result. (That
-- a call of the code returns is what the check proves.) "A call that cannot be met returns one number
-- from the rule sheet's table, and neither the schedule nor a lent buffer has changed."
pub record TakesAndRefuses : Type 0 where
  pub read_takes : (bytes : List ℕ) → (r : Result Message Refusal) × Reads bytes r
  pub write_takes : (m : Message) (before : List ℕ)
      → (after : List ℕ) × (r : Result ℕ Refusal) × Writes m before after r
  pub read_refusal : (bytes : List ℕ) (r : Result Message Refusal) (n : ℕ) → Reads bytes r
      → of_reading r ≡ refused n → (why : Refusal) × (n ≡ number why)
  pub write_refusal : (m : Message) (before after : List ℕ) (r : Result ℕ Refusal) (n : ℕ)
      → Writes m before after r → of_writing r ≡ refused n
      → (why : Refusal) × (n ≡ number why) × (after ≡ before)

-- "What we write reads back as the same values, and what we read writes back as the same bytes":
-- into any buffer that takes them. A message of the code fits its fields, by its types; here that
-- is asked of a failed event, as every other one that is allowed fits.
pub record RoundTrips : Type 0 where
  pub there_and_back : (m : Message) → FailedFits m → (before after : List ℕ) (size : ℕ)
      (r : Result Message Refusal) → Writes m before after (Ok size) → Reads (take size after) r
      → r ≡ Ok m
  pub back_and_there : (bytes : List ℕ) (m : Message) (before after : List ℕ)
      (r : Result ℕ Refusal) → Reads bytes (Ok m) → length bytes ≤ length before
      → Writes m before after r → (r ≡ Ok (length bytes)) × (after ≡ over bytes before)
