-- The line that each answer of the command program prints.
use Rattle.std.specs.Prelude.{ℕ, List, [], ◌∷◌, ◌++◌}
use Rattle.rules.specs.declared.Message.{Message}
use Rattle.rules.specs.declared.Message.TheVariants.{Default, Request, Change}
use Rattle.rules.specs.Text.{byte, text}
use Rattle.rules.specs.Answers.{Answer, refused, ok, dropped, kept, grown, shrunk, tight, owner, idle, slots, saved, loaded, reported, message, wrote, tidied}
use Rattle.rules.specs.Messages.{values_of}
use Rattle.rules.specs.Decimal.{decimal}

-- Numbers, "one space before each, decimal".
unfoldable pub spaced : List ℕ → List ℕ
unfolding decimal
spaced [] = []
spaced (n ∷ ns) = byte " " ∷ (decimal n ++ spaced ns)

-- The word of a message.
abbrev pub message_word : Message → List ℕ
message_word (Default v) = text "default"
message_word (Request handle v) = text "request"
message_word (Change e) = text "change"

-- "`ok F A L`; `ok` for drop; `kept`, `grown`, `shrunk` or `tight` and L; `owner` and handle, or `idle`; `slots` and the
-- number; `no` and the refusal number." Those from saved on are the probe's.
unfoldable pub words_of : Answer → List ℕ
unfolding spaced
words_of (refused n) = text "no" ++ spaced (n ∷ [])
words_of (ok F A L) = text "ok" ++ spaced (F ∷ A ∷ L ∷ [])
words_of dropped = text "ok"
words_of (kept L) = text "kept" ++ spaced (L ∷ [])
words_of (grown L) = text "grown" ++ spaced (L ∷ [])
words_of (shrunk L) = text "shrunk" ++ spaced (L ∷ [])
words_of (tight L) = text "tight" ++ spaced (L ∷ [])
words_of (owner h) = text "owner" ++ spaced (h ∷ [])
words_of idle = text "idle"
words_of (slots n) = text "slots" ++ spaced (n ∷ [])
words_of (saved n) = text "saved" ++ spaced (n ∷ [])
words_of (loaded n) = text "loaded" ++ spaced (n ∷ [])
words_of (reported n) = text "reported" ++ spaced (n ∷ [])
words_of (message m) = message_word m ++ spaced (values_of m)
words_of (wrote n) = text "wrote" ++ spaced (n ∷ [])
words_of (tidied n) = text "tidied" ++ spaced (n ∷ [])

-- No answer of a command has a longer line, with its LF: four bytes for each byte of the shortest command, `drop 0`, and its LF.
abbrev pub longest_answer : ℕ
longest_answer = 28

-- No message has more bytes in words: its word, and a space and ten digits for each of six numbers.
abbrev pub longest_message : ℕ
longest_message = 73
