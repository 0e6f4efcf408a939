use Prim.Native.Nat.{◌-◌, ◌≤◌}
use Rattle.run.specs.Promises.{SetsRun}
use Rattle.run.proofs.set_run.Given as goal

-- `run::set_run` meets its contract. The invariant: the run up to its block j has been set.
abbrev pub invariant-loop-j : goal.invariant-loop-j
invariant-loop-j l = (l.from ≤ l.j) × (l.j ≤ l.to) × SetsRun l.k l.anchor l.from l.j l.taken l.initial.tree l.tree

abbrev pub decreases-loop-j : goal.decreases-loop-j
decreases-loop-j l = l.to - l.j
