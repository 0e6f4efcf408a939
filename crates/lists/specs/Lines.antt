-- The probe's lines that lend a list of numbers.
use Rattle.std.specs.Prelude.{ℕ, ◌+◌, ◌*◌, ◌%◌, ◌≤◌, ◌≡◌, List, [], ◌∷◌, ◌++◌, length, replicate}
use Rattle.rules.specs.declared.Schedule.{Schedule}
use Rattle.rules.specs.Text.{text}
use Rattle.rules.specs.Words.{spaced, words_of, longest_answer}
use Rattle.rules.specs.Answers.{Listed}
use Rattle.rules.specs.Reports.{report_all}
use Rattle.rules.specs.Tidy.{tidy}
use Rattle.rules.specs.Program.{Printed}
use Rattle.texts.specs.Row.{IsRow}
use Rattle.reports.specs.Pairs.{reports_of}

-- ---- the bounds
-- `reports`: "M at most 128, and at most 128 reports"
abbrev pub most_entries : ℕ
most_entries = 128

abbrev pub most_listed : ℕ
most_listed = 128

-- No line has more numbers.
abbrev pub longest_row : ℕ
longest_row = 1 + 2 * most_listed

-- `tidy`: "N .. at most 400". No line lends a longer list.
abbrev pub most_moves : ℕ
most_moves = 400

-- A number of a list as it is printed has so many bytes at most: a space and ten digits.
abbrev pub longest_entry : ℕ
longest_entry = 11

-- No line prints more.
abbrev pub longest_line : ℕ
longest_line = longest_answer + longest_entry * most_moves

-- ---- what a line asks for
-- "a lent list of M entries that each hold 2779096485 (A5A5A5A5 hexadecimal)"
abbrev pub untouched : ℕ
untouched = 2779096485

abbrev pub blank_list : ℕ → List ℕ
blank_list n = replicate n untouched

-- A line is a word and numbers as in commands.
pub record Says (word line ns : List ℕ) : Type 0 where
  pub row : List ℕ
  pub is : line ≡ word ++ row
  pub says : IsRow row ns

-- "`reports M H S H S ..`: M, then handle and sample of each report, numbers as in commands": M entries, and the numbers of the reports.
pub record AsksReports (line : List ℕ) (entries : ℕ) (numbers : List ℕ) : Type 0 where
  pub says : Says (text "reports") line (entries ∷ numbers)
  pub few : entries ≤ most_entries
  pub listed : length numbers ≤ 2 * most_listed
  pub paired : length numbers % 2 ≡ 0

-- "`tidy N`, N a number as in commands"
pub record AsksTidy (line : List ℕ) (n : ℕ) : Type 0 where
  pub says : Says (text "tidy") line (n ∷ [])
  pub few : n ≤ most_moves

-- ---- what it prints
-- The words of the answer, "then for each of the .. numbers one space and the number in decimal".
unfoldable pub list_printed : Listed → Printed
unfolding words_of spaced
list_printed o = record { words = words_of o.answer ++ (spaced o.list ++ text "\n"); schedule = o.schedule }

-- "It prints `reported` and the number of reports, or `no 13`, or `no 14`"
unfoldable pub reports_printed : Schedule → ℕ → List ℕ → Printed
unfolding report_all reports_of list_printed
reports_printed s entries numbers = list_printed (report_all s (reports_of numbers) (blank_list entries))

-- "Prints `tidied` and how many anchors differ, or `no 19`, or `no 14`"
unfoldable pub tidy_printed : Schedule → ℕ → Printed
unfolding tidy list_printed
tidy_printed s n = list_printed (tidy s (blank_list n))

-- Any other line that opens with the word is bad, and changes nothing.
abbrev pub bad_printed : Schedule → Printed
bad_printed s = record { words = text "bad\n"; schedule = s }
