use Rattle.tidy.proofs.Placing.{PlacingTo}
use Rattle.tidy.proofs.arranging.arrange_depth.Given as goal

-- `arranging::arrange_depth` meets its contract. The invariant: the connections of the depth before handle h are placed.
abbrev pub invariant-loop-h : goal.invariant-loop-h
invariant-loop-h l = PlacingTo l.s.connections l.k l.h l.initial.new l.new l.room
