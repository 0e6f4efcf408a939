-- What the writing of the state promises.
use Rattle.std.specs.Prelude.{ℕ, ◌*◌, List}
use Rattle.rules.specs.declared.Connection.{Connection}
use Rattle.rules.specs.Ownership.{handles}
use Rattle.text.specs.Promises.{PutsWithin}
use Rattle.state.specs.State.{longest_line, state_lines}

-- The state's lines, from the start.
abbrev pub PutsState : List Connection → List ℕ → List ℕ → ℕ → Type 0
PutsState cs entry exit next = PutsWithin (longest_line * handles) entry 0 (state_lines 0 cs) exit next
