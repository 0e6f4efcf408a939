use Rattle.restore.specs.Promises.{records}
use Rattle.restore.proofs.Turns.{FirstTaken}
use Rattle.restore.proofs.restore.Given as goal

-- The invariant: the records before this one are taken.
abbrev pub invariant-loop-i : goal.invariant-loop-i
invariant-loop-i l =
    FirstTaken (records l.bytes) l.i l.new.connections l.new.tree.bytes
