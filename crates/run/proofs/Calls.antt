-- The law of the promise, whatever the code.
use mathlib.Core.Path.{◌≡◌, sym, ◌∙◌}
use Rattle.rules.specs.declared.Schedule.{Schedule}
use Rattle.run.specs.Promises.{Starts}

-- Two fresh schedules are equal.
pub starts_unique : (r t : Schedule) → Starts r → Starts t → r ≡ t
starts_unique r t p q = p.is ∙ sym q.is
