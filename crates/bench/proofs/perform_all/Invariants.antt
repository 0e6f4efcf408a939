use mathlib.Core.Path.{◌≡◌}
use Prim.Native.Nat.{◌≤◌}
use lib.ListN.{length}
use Rattle.rules.specs.Good.{Good}
use Rattle.bench.proofs.perform_all.Given as goal

-- The schedule is good, and what is lent keeps its size.
abbrev pub invariant-loop-line : goal.invariant-loop-line
invariant-loop-line g l = record {
  few : length l.rest ≤ 65536;
  good : Good l.s;
  bytes : length l.bytes ≡ 32768;
}

abbrev pub decreases-loop-line : goal.decreases-loop-line
decreases-loop-line g l = length l.rest
