-- The bytes of a text.
use Rattle.std.specs.Prelude.{ℕ, List, [], ◌∷◌}
use Prim.Native.Char.{Char, code}
use Prim.Native.String.{String, [] as empty, ◌∷◌ as ◌then◌}

-- A byte for each character; all are below 128 here.
abbrev pub byte : Char → ℕ
byte c = code c

abbrev pub text : String → List ℕ
text empty = []
text (c then s) = byte c ∷ text s
