-- The command program: from the bytes of its input to those of its output.
use Rattle.std.specs.Prelude.{ℕ, ◌*◌, cond, List, [], ◌∷◌, ◌++◌, ltb, length, Option, Some, None}
use Rattle.rules.specs.declared.Command.{Command}
use Rattle.rules.specs.declared.Schedule.{Schedule}
use Rattle.rules.specs.Good.{fresh}
use Rattle.rules.specs.Obey.{obey}
use Rattle.rules.specs.Text.{byte, text}
use Rattle.rules.specs.Split.{parted}
use Rattle.rules.specs.Words.{words_of}
use Rattle.rules.specs.Commands.{says}

-- "at most 4,096 bytes"
abbrev pub most_input : ℕ
most_input = 4096

-- No input prints more: an empty line, one byte, prints `bad` and LF, four bytes, and no line prints more for each byte of its own.
abbrev pub most_output : ℕ
most_output = 4 * most_input

-- What a line prints, and the schedule after it.
pub record Printed : Type 0 where
  pub words : List ℕ
  pub schedule : Schedule

-- "a bad line changes nothing"
unfoldable pub carried_out : Schedule → Option Command → Printed
unfolding obey words_of
carried_out s None = record { words = text "bad"; schedule = s }
carried_out s (Some c) =
    let o = obey s c in
    record { words = words_of o.answer; schedule = o.schedule }

-- "One line, ended by LF, is printed per input line."
unfoldable pub printed : Schedule → List (List ℕ) → List ℕ
unfolding carried_out says
printed s [] = []
printed s (line ∷ lines) =
    let one = carried_out s (says line) in
    one.words ++ byte "\n" ∷ printed one.schedule lines

-- "a tail of one byte or more without LF counts as a bad line"
abbrev pub tail_printed : List ℕ → List ℕ
tail_printed [] = []
tail_printed (x ∷ xs) = text "bad\n"

-- "Each line ends in LF"; the lines go one after the other.
unfoldable pub answered : Schedule → List ℕ → List ℕ
unfolding parted printed
answered s input = printed s (parted (byte "\n") input).pieces ++ tail_printed (parted (byte "\n") input).tail

-- "if there is more it prints only the line `long`. It starts from a fresh schedule".
unfoldable pub program : List ℕ → List ℕ
unfolding answered fresh
program input = cond (ltb most_input (length input)) (text "long\n") (answered fresh input)
