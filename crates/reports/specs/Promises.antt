-- What the list of reports promises, and the functions within.
use Rattle.std.specs.Prelude.{ℕ, ◌+◌, ◌/◌, min, ◌≡◌, List, Result}
use Rattle.rules.specs.declared.Schedule.{Schedule}
use Rattle.rules.specs.declared.Report.{Report}
use Rattle.rules.specs.declared.Refusal.{Refusal}
use Rattle.rules.specs.declared.Done.{Done}
use Rattle.rules.specs.Good.{Good}
use Rattle.rules.specs.Refusals.{decided}
use Rattle.rules.specs.Answers.{refused, reported, of_reporting_all, listed}
use Rattle.rules.specs.Reports.{most_reports, reports_checks, report_all}

-- The call: its answer, the schedule afterwards and every entry of the lent list are what the rule gives; and the schedule is good again.
pub record ReportsAll (s : Schedule) (reports : List Report) (entry exit : List ℕ) (r : Done (Result ℕ Refusal)) : Type 0 where
  pub is : listed of_reporting_all r exit ≡ report_all s reports entry
  pub good : Good r.schedule

-- ---- within
-- The answer, by the two lengths.
abbrev pub Answers : ℕ → ℕ → Result ℕ Refusal → Type 0
Answers reports entries r = of_reporting_all r ≡ decided (reports_checks reports entries) refused (reported reports)

-- How many reports of so many numbers are gathered: one more than a list may have is enough.
abbrev pub gathered_of : ℕ → ℕ
gathered_of numbers = min (numbers / 2) (most_reports + 1)
