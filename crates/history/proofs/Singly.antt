-- A list of reports is the same reports made singly.
use mathlib.Core.Path.{◌≡◌, refl, sym, ap, ◌∙◌}
use mathlib.Core.List.{List, [], ◌∷◌}
use lib.ListN.{get_or, take}
use Rattle.rules.specs.declared.Schedule.{Schedule}
use Rattle.rules.specs.declared.Report.{Report as ReportOfList}
use Rattle.rules.specs.Reports.{single, after_reports, coded}
use Rattle.calls.proofs.ReportsLaws.{entry_at, report_all_after}
use Rattle.history.specs.Calls.{ruled_call}
use Rattle.history.specs.Runs.{History, next, after}
use Rattle.history.specs.Singly.{singly, ListsAsSingly}

-- One request each leaves what the definition of the list leaves.
after_singly : (h : History) (reports : List ReportOfList) → after (singly h reports) ≡ after_reports (after h) reports
unfolding after after_reports ruled_call
after_singly h [] = refl
after_singly h (r ∷ reports) = after_singly (next h _) reports

pub lists_as_singly : ListsAsSingly
unfolding after ruled_call
lists_as_singly h reports lent few room =
    record {
      schedule = report_all_after (after h) reports lent.list few room ∙ sym (after_singly h reports);
      entries = λ i d none l.
          entry_at (after h) reports lent.list few room i d none l
          ∙ ap (λ (s : Schedule). coded (single s (get_or reports i none)).answer) (sym (after_singly h (take i reports)));
    }
