-- The buffer that a script's line lends.
use Rattle.std.specs.Prelude.{ℕ, List, [], ◌∷◌, ◌++◌, replicate}
use Rattle.rules.specs.Text.{byte, text}
use Rattle.rules.specs.Answers.{Written}
use Rattle.rules.specs.Words.{words_of}
use Rattle.hexadecimal.specs.Hex.{hex}

-- "at most 2,048" bytes
abbrev pub most_buffer : ℕ
most_buffer = 2048

-- A buffer of n bytes "that each hold A5 hexadecimal".
abbrev pub blank : ℕ → List ℕ
blank n = replicate n 165

-- "the whole buffer afterwards in hexadecimal", and one space before it, if there is one
abbrev pub buffer_words : List ℕ → List ℕ
buffer_words [] = []
buffer_words (b ∷ bs) = byte " " ∷ hex (b ∷ bs)

-- The line of a call that writes into it: the answer, then the buffer.
unfoldable pub lent_line : Written → List ℕ
unfolding words_of hex
lent_line w = words_of w.answer ++ buffer_words w.buffer ++ text "\n"
