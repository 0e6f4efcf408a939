-- Numbers that fit their fields in the bytes, as those of every message of the code do: its types hold no others.
use Rattle.std.specs.Prelude.{ℕ, ◌<◌, ◌≡◌, List, [], ◌∷◌}
use Rattle.rules.specs.declared.Message.{Message}
use Rattle.rules.specs.declared.Message.TheVariants.{Default, Request, Change}
use Rattle.rules.specs.Messages.{subrate_values, change_values}

abbrev pub TwoBytes : List ℕ → Type 0
TwoBytes [] = Unit {0}
TwoBytes (n ∷ ns) = (n < 65536) × TwoBytes ns

abbrev pub Fits : Message → Type 0
Fits (Default v) = TwoBytes (subrate_values v)
Fits (Request handle v) = TwoBytes (handle ∷ subrate_values v)
Fits (Change e) = (e.status < 256) × TwoBytes (change_values e)

-- Of an event of another status than 0 alone: every other message that is allowed fits.
abbrev pub FailedFits : Message → Type 0
FailedFits (Default v) = Unit {0}
FailedFits (Request handle v) = Unit {0}
FailedFits (Change e) = (e.status ≡ 0 → ⊥) → Fits (Change e)
