-- What a line of a script asks for.
use Rattle.std.specs.Prelude.{ℕ, Bool, true, ◌&&◌, cond, List, [], ◌∷◌, ◌++◌, leb, length, take, drop, Option, Some, None}
use Rattle.rules.specs.declared.Command.{Command}
use Rattle.rules.specs.Bytes.{same}
use Rattle.rules.specs.Text.{text}
use Rattle.rules.specs.Decimal.{value}
use Rattle.rules.specs.Words.{spaced}
use Rattle.rules.specs.Commands.{line_of, numbers_of, all_fit, guess}
use Rattle.hexadecimal.specs.Hex.{hex, unhex, all_bytes}
use Rattle.hexadecimal.specs.Lending.{most_buffer}

-- A command, a fresh start, the image, a save into a buffer of so many bytes, a load of bytes, the state.
pub data Order : Type 0 where
  command : Command → Order
  fresh save state bad : Order
  save_into : ℕ → Order
  load : List ℕ → Order

-- An order, written out.
unfoldable pub order_line : Order → List ℕ
unfolding line_of spaced hex
order_line (command c) = line_of c
order_line fresh = text "fresh"
order_line save = text "save"
order_line state = text "state"
order_line bad = []
order_line (save_into n) = text "save" ++ spaced (n ∷ [])
order_line (load []) = text "load"
order_line (load (b ∷ bs)) = text "load " ++ hex (b ∷ bs)

-- Numbers that fit, a buffer that is not too large, bytes that are bytes.
unfoldable pub allowed : Order → Bool
unfolding all_fit all_bytes
allowed (command c) = all_fit (numbers_of c)
allowed fresh = true
allowed save = true
allowed state = true
allowed bad = true
allowed (save_into n) = leb n most_buffer
allowed (load bytes) = all_bytes bytes

abbrev pub of_line : Option Command → Order
of_line (Some c) = command c
of_line None = bad

-- The order that a line can be, if any: by its first word.
unfoldable pub ordered : List ℕ → Order
unfolding same value unhex guess
ordered line =
    cond (same line (text "fresh")) fresh
    (cond (same line (text "state")) state
    (cond (same line (text "save")) save
    (cond (same (take (length (text "save ")) line) (text "save ")) (save_into (value (drop (length (text "save ")) line)))
    (cond (same line (text "load")) (load [])
    (cond (same (take (length (text "load ")) line) (text "load ")) (load (unhex (drop (length (text "load ")) line))) (of_line (guess line)))))))

-- A line asks for the order that it is when written out; anything else is bad.
unfoldable pub asks : List ℕ → Order
unfolding ordered order_line allowed same
asks line =
    let o = ordered line in
    cond (same (order_line o) line && allowed o) o bad
