use Rattle.place.proofs.SearchLaws.{MeasuredFrom}
use Rattle.place.proofs.stretches.Given as goal

-- `place::stretches` meets its contract. The invariant: the classes from c on have been measured.
abbrev pub invariant-loop-c : goal.invariant-loop-c
invariant-loop-c g l = MeasuredFrom l.k l.c l.free (goal.F-post g l.taken) l.room
