use Rattle.rules.specs.Good.{Good}
use Rattle.bench.proofs.one_by_one.Given as goal

-- The schedule that is put back is good.
abbrev pub invariant-loop-handle : goal.invariant-loop-handle
invariant-loop-handle g l = Good l.left
