use lib.ListN.{length}
use Rattle.command.proofs.Whole.{SoFar}
use Rattle.command.proofs.running.answer_all.Given as goal

-- `command::answer_all` meets its contract. The invariant: the lines before the rest are answered.
abbrev pub invariant-loop-line : goal.invariant-loop-line
invariant-loop-line l = SoFar l.input l.initial.out l.out l.rest l.s l.at

abbrev pub decreases-loop-line : goal.decreases-loop-line
decreases-loop-line l = length l.rest
