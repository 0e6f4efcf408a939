-- Anchor: handle, block.
use Rattle.std.specs.Prelude.{ℕ, ◌*◌, List, [], ◌∷◌}
use Rattle.rules.specs.declared.Connection.{Connection}
use Rattle.rules.specs.declared.Schedule.{Schedule}
use Rattle.rules.specs.declared.Refusal.TheVariants.{HandleAbove63, HandleNotLive}
use Rattle.rules.specs.Time.{block_slots, minus_mod}
use Rattle.rules.specs.Ownership.{factor}
use Rattle.rules.specs.Refusals.{Check, check, decided}
use Rattle.rules.specs.Answers.{Answer, refused, slots}
use Rattle.rules.specs.Handles.{connection, above_handles, not_live}

-- "Slots from the start of that block to the next anchor: 6 × ((A - block) mod F), 0 if the block is an anchor."
unfoldable pub slots_to_anchor : Connection → ℕ → ℕ
unfolding minus_mod
slots_to_anchor c block = block_slots * minus_mod c.anchor block (factor c)

-- "Checks 1, 3."
abbrev pub anchor_checks : Schedule → ℕ → List Check
anchor_checks s handle = check HandleAbove63 (above_handles handle) ∷ check HandleNotLive (not_live s handle) ∷ []

unfoldable pub anchor : Schedule → ℕ → ℕ → Answer
unfolding slots_to_anchor decided
anchor s handle block = decided (anchor_checks s handle) refused (slots (slots_to_anchor (connection s handle) block))
