use Rattle.std.proofs.Common.{◌≤◌, ◌*◌}
use Rattle.tree_values.proofs.all_as_walked.Given as goal

abbrev pub invariant-loop-k : goal.invariant-loop-k
invariant-loop-k l = l.count ≤ 512 * l.k-counter
