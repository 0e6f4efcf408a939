use mathlib.Core.Path.{sym}
use native.Mathlib.Omega.{arith}
use Rattle.rules.specs.Answers.{refused, reported}
use Rattle.calls.proofs.ReportsLaws.{decided_13, decided_14, decided_ok}
use Rattle.reports.proofs.listing.answer_of.Goals as goal

-- `reports::listing::answer_of` meets its contract: each exit is one of the two checks, or that both pass.
pub returns-then-reports-gt-MOST_REPORTS : goal.returns-then-reports-gt-MOST_REPORTS
returns-then-reports-gt-MOST_REPORTS c = let a = c.args in sym (decided_13 a.reports a.entries refused (reported a.reports) (omega arith))

pub returns-then-entries-reports : goal.returns-then-entries-reports
returns-then-entries-reports c = let a = c.args in sym (decided_14 a.reports a.entries refused (reported a.reports) (omega arith) (omega arith))

pub returns : goal.returns
returns c = let a = c.args in sym (decided_ok a.reports a.entries refused (reported a.reports) (omega arith) (omega arith))
