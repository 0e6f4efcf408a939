-- Drop: handle.
use Rattle.std.specs.Prelude.{ℕ, List, [], ◌∷◌}
use Rattle.rules.specs.declared.Schedule.{Schedule}
use Rattle.rules.specs.declared.Refusal.TheVariants.{HandleAbove63, HandleNotLive}
use Rattle.rules.specs.Ownership.{nobody}
use Rattle.rules.specs.Good.{with_connections, with_connection}
use Rattle.rules.specs.Refusals.{Check, check, decided}
use Rattle.rules.specs.Answers.{Outcome, refusing, dropped}
use Rattle.rules.specs.Handles.{above_handles, not_live}

-- "Checks 1, 3."
abbrev pub drop_checks : Schedule → ℕ → List Check
drop_checks s handle = check HandleAbove63 (above_handles handle) ∷ check HandleNotLive (not_live s handle) ∷ []

-- "Its blocks are free at once."
unfoldable pub drop_done : Schedule → ℕ → Outcome
unfolding with_connections
drop_done s handle =
    let after = with_connection s handle nobody in
    record { answer = dropped; schedule = after }

unfoldable pub drop_handle : Schedule → ℕ → Outcome
unfolding drop_done decided
drop_handle s handle = decided (drop_checks s handle) (refusing s) (drop_done s handle)
