-- The lines of a schedule's state.
use Rattle.std.specs.Prelude.{ℕ}
use mathlib.Core.List.{List, [], ◌∷◌, ◌++◌, flatten}
use Rattle.rules.specs.declared.Connection.{Connection}
use Rattle.rules.specs.Handles.{each_live}
use Rattle.rules.specs.Text.{text}
use Rattle.rules.specs.Decimal.{decimal}
use Rattle.rules.specs.Words.{spaced}

-- The end of a line.
abbrev pub newline : List ℕ
newline = text "\n"

-- "a line `handle k anchor length floor ceiling estimate`"
unfoldable pub connection_line : ℕ → Connection → List ℕ
unfolding decimal spaced
connection_line h c = decimal h ++ spaced (c.k ∷ c.anchor ∷ c.length ∷ c.floor ∷ c.ceiling ∷ c.estimate ∷ []) ++ newline

-- It has so many bytes at most.
abbrev pub longest_line : ℕ
longest_line = 48

-- "for each live connection by rising handle", from handle h on
unfoldable pub state_lines : ℕ → List Connection → List ℕ
unfolding connection_line each_live flatten
state_lines h cs = flatten (each_live connection_line h cs)
