-- The loop of `report_all`: before turn i the schedule and the list are what the first i reports leave.
use Rattle.std.proofs.Common.{◌≡◌}
use Rattle.reports.proofs.Walking.{state_at, list_at}
use Rattle.reports.proofs.listing.report_all.Given as goal

abbrev pub invariant-loop-i : goal.invariant-loop-i
invariant-loop-i l =
    (l.left ≡ state_at l.fn.s l.reports l.i)
    × (l.answers ≡ list_at l.fn.s l.reports l.initial.answers l.i)
