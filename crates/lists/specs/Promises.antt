-- What the performing of a line that lends a list promises.
use Rattle.std.specs.Prelude.{ℕ, ◌+◌, ◌≤◌, ◌≡◌, List, ◌++◌, length, take, drop}
use Rattle.std.specs.Prelude.{Option, Some, None, Result}
use Rattle.rules.specs.declared.Schedule.{Schedule}
use Rattle.rules.specs.declared.Refusal.{Refusal}
use Rattle.rules.specs.declared.Done.{Done}
use Rattle.rules.specs.Text.{text}
use Rattle.rules.specs.Words.{spaced}
use Rattle.rules.specs.Good.{Good}
use Rattle.rules.specs.Program.{Printed}
use Rattle.text.specs.Promises.{Puts}
use Rattle.answer.specs.Promises.{counted}
use Rattle.order.specs.declared.Performed.{Performed}
use Rattle.lists.specs.declared.reporting.Asked.{Asked}
use Rattle.lists.specs.Lines.{longest_line, AsksReports, AsksTidy}
use Rattle.lists.specs.Lines.{reports_printed, tidy_printed, bad_printed}

-- All that is printed, from the buffer's start, and the schedule afterwards.
pub record Prints (p : Printed) (entry exit : List ℕ) (r : Performed) : Type 0 where
  pub prints : Puts entry 0 p.words exit r.count
  pub leaves : r.schedule ≡ p.schedule

-- A line is performed: what it asks for; if it asks for nothing, it is a bad line. The schedule is good again, and what is printed fits.
pub record Performs {A : Type 0} (asks : A → Type 0) (printed : A → Printed) (s : Schedule) (entry exit : List ℕ) (r : Performed) : Type 0 where
  pub asked : (a : A) → asks a → Prints (printed a) entry exit r
  pub otherwise : ((a : A) → asks a → ⊥) → Prints (bad_printed s) entry exit r
  pub good : Good r.schedule
  pub fits : r.count ≤ longest_line

-- The reports, by how many entries there are and the numbers that they have;
abbrev pub PerformsReports : Schedule → List ℕ → List ℕ → List ℕ → Performed → Type 0
PerformsReports s line entry exit r = Performs (λ (a : ℕ × List ℕ). AsksReports line a.0 a.1) (λ (a : ℕ × List ℕ). reports_printed s a.0 a.1) s entry exit r

-- the tidy, by how many numbers its list has.
abbrev pub PerformsTidy : Schedule → List ℕ → List ℕ → List ℕ → Performed → Type 0
PerformsTidy s line entry exit r = Performs (AsksTidy line) (tidy_printed s) s entry exit r

-- ---- within
-- The slice has the number of entries, and behind it those of the reports.
pub record HasAsked (line slice : List ℕ) (entries count : ℕ) : Type 0 where
  pub within : 1 + count ≤ length slice
  pub asks : AsksReports line entries (take count (drop 1 slice))

-- What the line asks for, or that it asks for nothing.
abbrev pub ReadsAsked : List ℕ → List ℕ → Option Asked → Type 0
ReadsAsked line slice (Some a) = HasAsked line slice a.entries a.count
ReadsAsked line slice None =
    (entries : ℕ) (numbers : List ℕ) → AsksReports line entries numbers → ⊥

abbrev pub ReadsTidy : List ℕ → Option ℕ → Type 0
ReadsTidy line (Some n) = AsksTidy line n
ReadsTidy line None = (n : ℕ) → AsksTidy line n → ⊥

-- The line of a call that filled a list: the words of its answer, the list, the end of the line.
pub record PutsDone (done : Done (Result ℕ Refusal)) (word list entry exit : List ℕ) (r : Performed)
    : Type 0 where
  pub puts : Puts entry 0 (counted word done.answer ++ (spaced list ++ text "\n")) exit r.count
  pub leaves : r.schedule ≡ done.schedule
  pub fits : r.count ≤ longest_line

-- A call is made, or none: what is printed, with a good schedule.
pub record Makes (p : Printed) (entry exit : List ℕ) (r : Performed) : Type 0 where
  pub prints : Prints p entry exit r
  pub good : Good r.schedule
  pub fits : r.count ≤ longest_line
