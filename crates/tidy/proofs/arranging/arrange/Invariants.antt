use Rattle.tidy.proofs.Placing.{AllTo}
use Rattle.tidy.proofs.arranging.arrange.Given as goal

-- `arranging::arrange` meets its contract. The invariant: the connections of the depths before k are placed.
abbrev pub invariant-loop-k : goal.invariant-loop-k
invariant-loop-k l = AllTo l.s.connections l.k l.new l.room
