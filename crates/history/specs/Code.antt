-- Runs of the code: a start, then public calls in whichever order, each result meeting that call's own promise.
use Rattle.std.specs.Prelude.{ℕ, ◌≡◌, List, Option, Result as OkOrErr}
use Rattle.rules.specs.declared.Schedule.{Schedule}
use Rattle.rules.specs.declared.Refusal.{Refusal}
use Rattle.rules.specs.declared.Placed.{Placed}
use Rattle.rules.specs.declared.Adjusted.{Adjusted}
use Rattle.rules.specs.declared.Done.{Done}
use Rattle.rules.specs.Answers.{of_admission, of_dropping, of_reporting, of_reporting_all, of_ownership, of_distance, of_saving, of_loading, of_tidying, outcome, listed}
use Rattle.run.specs.Promises.{Starts}
use Rattle.schedule.specs.Promises.{Admits, Drops, Reports as SingleReports}
use Rattle.reports.specs.Promises.{ReportsAll}
use Rattle.questions.specs.Promises.{OwnerSays, AnchorSays}
use Rattle.image.specs.Promises.{Saves, Loads}
use Rattle.tidy.specs.Promises.{Tidies}
use Rattle.history.specs.Calls.{Call, Admit, Drop, Report, Reports, Owner, Anchor, Save, Load, Tidy, Lent, Result, beside, asked, filled, written, ruled}
use Rattle.history.specs.Runs.{Start, Fresh, after, Made, Run, begun, more, now, history_of, System}
use Rattle.history.specs.Demands.{Demand1, Demand2, Demand3}
use Rattle.history.specs.AtMostHalf.{AtMostHalf}

-- What the code begins with.
abbrev pub StartsAs : Start → Schedule → Type 0
StartsAs Fresh s = Starts s

-- One case for each public call on a schedule: what the code returned meets its promise, and is what is left.
abbrev pub Meets : Schedule → Call → Lent → Result → Type 0
Meets s (Admit handle smallest largest floor ceiling) lent t =
    (r : Done (OkOrErr Placed Refusal)) × Admits s handle smallest largest floor ceiling r × (t ≡ beside lent (outcome of_admission r))
Meets s (Drop handle) lent t = (r : Done (OkOrErr Unit Refusal)) × Drops s handle r × (t ≡ beside lent (outcome of_dropping r))
Meets s (Report handle sample) lent t = (r : Done (OkOrErr Adjusted Refusal)) × SingleReports s handle sample r × (t ≡ beside lent (outcome of_reporting r))
Meets s (Reports reports) lent t =
    (r : Done (OkOrErr ℕ Refusal)) × (exit : List ℕ) × ReportsAll s reports lent.list exit r × (t ≡ filled lent (listed of_reporting_all r exit))
Meets s (Owner block) lent t = (r : Option ℕ) × OwnerSays s block r × (t ≡ asked lent s (of_ownership r))
Meets s (Anchor handle block) lent t = (r : OkOrErr ℕ Refusal) × AnchorSays s handle block r × (t ≡ asked lent s (of_distance r))
Meets s Save lent t =
    (r : OkOrErr ℕ Refusal) × (exit : List ℕ) × Saves s lent.buffer exit r × (t ≡ written lent s (record { answer = of_saving r; buffer = exit }))
Meets s (Load bytes) lent t = (r : Done (OkOrErr ℕ Refusal)) × Loads s bytes.list r × (t ≡ beside lent (outcome of_loading r))
Meets s Tidy lent t = (r : Done (OkOrErr ℕ Refusal)) × (exit : List ℕ) × Tidies s lent.list exit r × (t ≡ filled lent (listed of_tidying r exit))

abbrev pub Coded : System
Coded (begun start s) = StartsAs start s
Coded (more run m) = Coded run × Meets (now run) m.request.call m.request.lent m.result

-- Of every run of the code: its schedule, each answer and all that was lent are those of the rule sheet's step after the same history; and
-- the three demands hold. And one logger does not take the house.
pub record CodeAsDemanded : Type 0 where
  pub schedules : (run : Run) → Coded run → now run ≡ after (history_of run)
  pub results : (run : Run) (m : Made) → Coded (more run m) → m.result ≡ ruled (after (history_of run)) m.request
  pub demand1 : Demand1 Coded
  pub demand2 : Demand2 Coded
  pub demand3 : Demand3 Coded
  pub half : AtMostHalf Coded
