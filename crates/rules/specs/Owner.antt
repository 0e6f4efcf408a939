-- Owner: block. Never refused.
use Rattle.std.specs.Prelude.{ℕ}
use Rattle.std.proofs.Math.Option.{Option, none, some}
use Rattle.rules.specs.declared.Schedule.{Schedule}
use Rattle.rules.specs.Below.{least}
use Rattle.rules.specs.Ownership.{handles, owns}
use Rattle.rules.specs.Handles.{connection}
use Rattle.rules.specs.Answers.{Answer, owner, idle}

abbrev pub owner_or : Option ℕ → Answer
owner_or none = idle
owner_or (some h) = owner h

-- "the handle of the live connection that the block belongs to, or idle exactly if there is none"
unfoldable pub owner_of : Schedule → ℕ → Answer
unfolding least owns
owner_of s block = owner_or (least handles (λ h. owns (connection s h) block))
