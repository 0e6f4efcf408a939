-- What the performing of a line that reads or writes a message promises.
use Rattle.std.specs.Prelude.{ℕ, ◌≤◌, List, ◌++◌, get_or, Option, Some, None}
use Rattle.rules.specs.declared.Message.{Message}
use Rattle.rules.specs.Text.{text}
use Rattle.rules.specs.Words.{words_of}
use Rattle.rules.specs.ReadMessage.{read_message}
use Rattle.rules.specs.WriteMessage.{write_message}
use Rattle.text.specs.Promises.{PutsWithin}
use Rattle.hexadecimal.specs.Lending.{most_buffer, blank, lent_line}
use Rattle.talk.specs.declared.asking.Asked.{Asked}
use Rattle.talk.specs.declared.asking.Asked.TheVariants.{Read, Write, Bad, Other}

-- No line has more numbers: the buffer's size, and the six of a request or a change.
abbrev pub longest_row : ℕ
longest_row = 7

-- No line prints more.
abbrev pub longest_told : ℕ
longest_told = 4200

-- "`wrote` and the size, or `no 17`, or `no 8`; then, if N is not 0, one space and the whole buffer afterwards in hexadecimal"
unfoldable pub written_line : Message → ℕ → List ℕ
unfolding write_message lent_line
written_line m n = lent_line (write_message m (blank n))

-- What is printed, from the start of the output on: the answer of a reading, that of a writing into a blank buffer, or that the line is bad.
pub data Prints (entry exit : List ℕ) (n : ℕ) : Type 0 where
  reads : (bytes : List ℕ) → PutsWithin longest_told entry 0 (words_of (read_message bytes) ++ text "\n") exit n → Prints entry exit n
  writes : (m : Message) (size : ℕ) → size ≤ most_buffer → PutsWithin longest_told entry 0 (written_line m size) exit n → Prints entry exit n
  bad : PutsWithin longest_told entry 0 (text "bad\n") exit n → Prints entry exit n

-- A line of a message is performed so; of any other nothing is said.
abbrev pub Tells : List ℕ → List ℕ → Option ℕ → Type 0
Tells entry exit (Some n) = Prints entry exit n
Tells entry exit None = Unit {0}

-- ---- within
-- The bytes to read are in the lent buffer, and that of a writing is not too large.
abbrev pub Within : ℕ → Asked → Type 0
Within lent (Read n) = n ≤ lent
Within lent (Write n m) = n ≤ most_buffer
Within lent Bad = Unit {0}
Within lent Other = Unit {0}

-- The first of a line's numbers is a buffer's size.
abbrev pub Numbers : Option (List ℕ) → Type 0
Numbers (Some numbers) = get_or numbers 0 0 ≤ most_buffer
Numbers None = Unit {0}
