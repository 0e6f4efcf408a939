use Rattle.std.proofs.Common.{◌-◌, length}
use Rattle.text.proofs.Rows.{SoFar}
use Rattle.text.proofs.reading.read_row.Given as goal

-- The numbers before next are read.
abbrev pub invariant-loop-next : goal.invariant-loop-next
invariant-loop-next l = SoFar l.line l.at l.initial.numbers l.numbers l.next l.count

abbrev pub decreases-loop-next : goal.decreases-loop-next
decreases-loop-next l = length l.line - l.next
