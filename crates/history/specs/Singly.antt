-- A list of reports, and the same reports made singly.
use Rattle.std.specs.Prelude.{ℕ, ◌<◌, ◌≤◌, ◌≡◌, List, [], ◌∷◌, length, get_or, take}
use Rattle.rules.specs.declared.Report.{Report as ReportOfList}
use Rattle.rules.specs.Reports.{coded, most_reports}
use Rattle.history.specs.Calls.{Report, Reports, Lent, nothing, Request, ruled}
use Rattle.history.specs.Runs.{History, next, after}

-- A report of the list, as a request of its own;
abbrev pub alone : ReportOfList → Request
alone r = record { call = Report r.handle r.sample; lent = nothing }

-- and all of them, one request each, "in list order".
abbrev pub singly : History → List ReportOfList → History
singly h [] = h
singly h (r ∷ reports) = singly (next h (alone r)) reports

-- "The outcome equals making the reports singly in list order": where the list is not refused, the schedule afterwards is the same, and each
-- entry is the coded answer of its report at its place among them.
pub record AsSingly (h : History) (reports : List ReportOfList) (lent : Lent) : Type 0 where
  pub schedule : after (next h (record { call = Reports reports; lent = lent })) ≡ after (singly h reports)
  pub entries : (i d : ℕ) (none : ReportOfList) → i < length reports
      → get_or (ruled (after h) (record { call = Reports reports; lent = lent })).lent.list i d
      ≡ coded (ruled (after (singly h (take i reports))) (alone (get_or reports i none))).answer

abbrev pub ListsAsSingly : Type 0
ListsAsSingly =
    (h : History) (reports : List ReportOfList) (lent : Lent) → length reports ≤ most_reports → length reports ≤ length lent.list
    → AsSingly h reports lent
