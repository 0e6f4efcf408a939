use Prim.Native.Nat.{◌-◌, ◌≤◌}
use Rattle.tidy.specs.Promises.{TakesRow}
use Rattle.tidy.proofs.row.take_run.Given as goal

-- `row::take_run` meets its contract. The invariant: the classes of the first j blocks are taken.
abbrev pub invariant-loop-j : goal.invariant-loop-j
invariant-loop-j l = (l.j ≤ l.blocks) × TakesRow l.k l.anchor l.j l.initial.room l.room

abbrev pub decreases-loop-j : goal.decreases-loop-j
decreases-loop-j l = l.blocks - l.j
