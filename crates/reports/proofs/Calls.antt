-- The laws of the call: what follows from its promise, whatever the code.
use mathlib.Core.Path.{◌≡◌, sym, ◌∙◌}
use mathlib.Core.List.{List}
use Prim.Native.Nat.{ℕ}
use Rattle.rules.specs.declared.Schedule.{Schedule}
use Rattle.rules.specs.declared.Report.{Report}
use Rattle.std.specs.Prelude.{Result}
use Rattle.rules.specs.declared.Refusal.{Refusal}
use Rattle.rules.specs.declared.Done.{Done}
use Rattle.calls.proofs.AnswerLaws.{listed_injective, reporting_all_injective}
use Rattle.reports.specs.Promises.{ReportsAll}

-- Two outcomes that meet the statement are equal, the lists too.
pub report_all_unique : (s : Schedule) (reports : List Report) (list x y : List ℕ) (a b : Done (Result ℕ Refusal))
    → ReportsAll s reports list x a → ReportsAll s reports list y b → (a ≡ b) × (x ≡ y)
report_all_unique s reports list x y a b p q =
    listed_injective _ reporting_all_injective a b x y (p.is ∙ sym q.is)
