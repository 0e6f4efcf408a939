-- The lines of the command program: what each says.
use Rattle.std.specs.Prelude.{ℕ, Bool, true, ◌&&◌, cond, List, [], ◌∷◌, ◌++◌, map, eqb, length, get_or, Option, Some, None}
use Rattle.rules.specs.declared.Command.{Command}
use Rattle.rules.specs.declared.Command.TheVariants.{Admit, AdmitRange, Drop, Report, Owner, Anchor}
use Rattle.rules.specs.Text.{byte, text}
use Rattle.rules.specs.Bytes.{same}
use Rattle.rules.specs.Decimal.{value, fits}
use Rattle.rules.specs.Split.{parted}
use Rattle.rules.specs.Words.{spaced}

-- ---- a command, written out
-- "A line opens with one of the words admit, drop, report, owner, anchor in small letters,"
abbrev pub word_of : Command → List ℕ
word_of (Admit handle interval floor ceiling) = text "admit"
word_of (AdmitRange handle smallest largest floor ceiling) = text "admit"
word_of (Drop handle) = text "drop"
word_of (Report handle sample) = text "report"
word_of (Owner block) = text "owner"
word_of (Anchor handle block) = text "anchor"

-- "then its numbers in the order above," and "a five-number form has the smallest before the largest",
abbrev pub numbers_of : Command → List ℕ
numbers_of (Admit handle interval floor ceiling) = handle ∷ interval ∷ floor ∷ ceiling ∷ []
numbers_of (AdmitRange handle smallest largest floor ceiling) = handle ∷ smallest ∷ largest ∷ floor ∷ ceiling ∷ []
numbers_of (Drop handle) = handle ∷ []
numbers_of (Report handle sample) = handle ∷ sample ∷ []
numbers_of (Owner block) = block ∷ []
numbers_of (Anchor handle block) = handle ∷ block ∷ []

-- "one space before each".
unfoldable pub line_of : Command → List ℕ
unfolding spaced
line_of c = word_of c ++ spaced (numbers_of c)

-- "at most 2^32 − 1"
unfoldable pub all_fit : List ℕ → Bool
unfolding fits
all_fit [] = true
all_fit (n ∷ ns) = fits n && all_fit ns

-- ---- and read
-- A form: a word, with so many numbers.
abbrev pub is_form : List ℕ → List ℕ → List ℕ → ℕ → Bool
is_form word ns form count = same word form && eqb (length ns) count

-- The command of a word and its numbers, a line for each form.
unfoldable pub named : List ℕ → List ℕ → Option Command
unfolding same
named word ns =
    let n : ℕ → ℕ = λ i. get_or ns i 0 in
    cond (is_form word ns (text "admit") 4) (Some (Admit (n 0) (n 1) (n 2) (n 3)))
    (cond (is_form word ns (text "admit") 5) (Some (AdmitRange (n 0) (n 1) (n 2) (n 3) (n 4)))
    (cond (is_form word ns (text "drop") 1) (Some (Drop (n 0)))
    (cond (is_form word ns (text "report") 2) (Some (Report (n 0) (n 1)))
    (cond (is_form word ns (text "owner") 1) (Some (Owner (n 0)))
    (cond (is_form word ns (text "anchor") 2) (Some (Anchor (n 0) (n 1))) None)))))

-- What is between the spaces, taken as a word and then numbers.
unfoldable pub fields_named : List (List ℕ) → List ℕ → Option Command
unfolding named value
fields_named [] tail = named tail []
fields_named (word ∷ ps) tail = named word (map value (ps ++ (tail ∷ [])))

unfoldable pub guess : List ℕ → Option Command
unfolding parted fields_named
guess line = fields_named (parted (byte " ") line).pieces (parted (byte " ") line).tail

-- A line says the command that it is when written out. "Anything else prints `bad`."
unfoldable pub confirmed : List ℕ → Option Command → Option Command
unfolding line_of all_fit same
confirmed line None = None
confirmed line (Some c) = cond (same (line_of c) line && all_fit (numbers_of c)) (Some c) None

unfoldable pub says : List ℕ → Option Command
unfolding guess confirmed
says line = confirmed line (guess line)
