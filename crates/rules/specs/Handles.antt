-- The handles of a schedule: what each has, and the checks of one.
use Rattle.std.specs.Prelude.{ℕ, suc, Bool, not, cond, List, [], ◌∷◌, ltb}
use Rattle.rules.specs.declared.Connection.{Connection}
use Rattle.rules.specs.declared.Schedule.{Schedule}
use Rattle.rules.specs.Ownership.{last_handle, at}

-- The connection of a handle in a schedule.
abbrev pub connection : Schedule → ℕ → Connection
connection s h = at s.connections h

-- 1: "handle above 63"
abbrev pub above_handles : ℕ → Bool
above_handles h = ltb last_handle h

-- 2: "handle already live"
abbrev pub is_live : Schedule → ℕ → Bool
is_live s h = (connection s h).live

-- 3: "handle not live"
abbrev pub not_live : Schedule → ℕ → Bool
not_live s h = not (is_live s h)

-- Something for each live connection, handles rising, from handle h on.
unfoldable pub each_live {ℓ} : {A : Type ℓ} → (ℕ → Connection → A) → ℕ → List Connection → List A
each_live f h [] = []
each_live f h (c ∷ cs) =
    let later = each_live f (suc h) cs in
    cond c.live (f h c ∷ later) later
