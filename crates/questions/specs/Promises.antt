-- What the questions promise.
use Rattle.std.specs.Prelude.{ℕ, ◌≡◌, Option, Result}
use Rattle.rules.specs.declared.Schedule.{Schedule}
use Rattle.rules.specs.declared.Refusal.{Refusal}
use Rattle.rules.specs.Answers.{of_ownership, of_distance}
use Rattle.rules.specs.Owner.{owner_of}
use Rattle.rules.specs.Anchor.{anchor}

-- Each question: the answer is what the rule gives; nothing is changed.
abbrev pub OwnerSays : Schedule → ℕ → Option ℕ → Type 0
OwnerSays s block r = of_ownership r ≡ owner_of s block

abbrev pub AnchorSays : Schedule → ℕ → ℕ → Result ℕ Refusal → Type 0
AnchorSays s handle block r = of_distance r ≡ anchor s handle block
