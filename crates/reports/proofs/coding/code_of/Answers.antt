use mathlib.Core.Path.{sym, ap, ◌∙◌}
use Rattle.rules.specs.Answers.{of_reporting}
use Rattle.rules.specs.Reports.{coded}
use Rattle.reports.proofs.coding.code_of.Goals as goal

pub returns-in-Err : goal.returns-in-Err
returns-in-Err c = c.refusal_number.ensures ∙ ap (λ a. coded (of_reporting a)) (sym c.in-Err.is)
