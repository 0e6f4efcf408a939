-- Checks 1 and 3, of the calls on a live connection.
use Rattle.std.specs.Prelude.{ℕ, ◌<◌, ◌≤◌, ◌≡◌, ◌⊎◌, true, false, Result, Ok, Err}
use Rattle.rules.specs.declared.Connection.{Connection}
use Rattle.rules.specs.declared.Schedule.{Schedule}
use Rattle.rules.specs.declared.Refusal.{Refusal}
use Rattle.rules.specs.declared.Refusal.TheVariants.{HandleAbove63, HandleNotLive}
use Rattle.rules.specs.Ownership.{last_handle}
use Rattle.rules.specs.Handles.{connection, is_live}

-- The handle is one of a live connection, and this is it.
pub record IsLive (s : Schedule) (h : ℕ) (c : Connection) : Type 0 where
  pub bounded : h ≤ last_handle
  pub live : is_live s h ≡ true
  pub is : c ≡ connection s h

-- The first of the two checks that refuses.
abbrev pub Refuses : Schedule → ℕ → Refusal → Type 0
Refuses s h r =
    (last_handle < h × (r ≡ HandleAbove63))
    ⊎ (h ≤ last_handle × (is_live s h ≡ false) × (r ≡ HandleNotLive))

abbrev pub FindsLive : Schedule → ℕ → Result Connection Refusal → Type 0
FindsLive s h (Ok c) = IsLive s h c
FindsLive s h (Err r) = Refuses s h r
