-- Save: a lent buffer.
use Rattle.std.specs.Prelude.{ℕ, List, [], ◌∷◌, ltb, length}
use Rattle.rules.specs.declared.Schedule.{Schedule}
use Rattle.rules.specs.declared.Refusal.TheVariants.{BufferShort}
use Rattle.rules.specs.Refusals.{Check, check, decided}
use Rattle.rules.specs.Answers.{Written, refusing_buffer, saved}
use Rattle.rules.specs.Lent.{over}
use Rattle.rules.specs.Image.{image}

-- "Check 8": "buffer shorter than the image".
unfoldable pub save_checks : Schedule → List ℕ → List Check
unfolding image
save_checks s buffer = check BufferShort (ltb (length buffer) (length (image s))) ∷ []

-- "Writes the image from the buffer's start and answers its size; the rest of the buffer is unchanged."
unfoldable pub save_done : Schedule → List ℕ → Written
unfolding image
save_done s buffer =
    let bytes = image s in
    record { answer = saved (length bytes); buffer = over bytes buffer }

unfoldable pub save : Schedule → List ℕ → Written
unfolding save_checks save_done decided
save s buffer = decided (save_checks s buffer) (refusing_buffer buffer) (save_done s buffer)
