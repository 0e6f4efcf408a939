-- What the performing of a line promises.
use Rattle.std.specs.Prelude.{ℕ, ◌≤◌, ◌≡◌, List}
use Rattle.rules.specs.declared.Schedule.{Schedule}
use Rattle.rules.specs.Good.{Good}
use Rattle.text.specs.Promises.{Puts}
use Rattle.order.specs.declared.Performed.{Performed}
use Rattle.order.specs.Orders.{asks}
use Rattle.script.specs.Performing.{most_printed, performed}

-- A line is performed: all that it prints, and the schedule afterwards; and the schedule is good again.
pub record Performs (s : Schedule) (line entry exit : List ℕ) (r : Performed) : Type 0 where
  pub prints : Puts entry 0 (performed s (asks line)).words exit r.count
  pub fits : r.count ≤ most_printed
  pub leaves : r.schedule ≡ (performed s (asks line)).schedule
  pub good : Good r.schedule
