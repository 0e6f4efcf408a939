use Prim.Native.Nat.{◌<◌}
use Rattle.blocks.specs.Children.{Sized}
use Rattle.tree.specs.Promises.{MissingOver}
use Rattle.tree.proofs.JoinLaws.{Keeps}
use Rattle.tree.proofs.join_above.Given as goal

-- `tree::join_above` meets its contract. The invariant: only the node over v may be missing, and only nodes above n have
-- changed.
abbrev pub invariant-loop-v : goal.invariant-loop-v
invariant-loop-v l =
    (0 < l.v) × (l.v < 1024) × Sized l.tree × MissingOver l.v l.tree × Keeps l.n l.v l.initial.tree l.tree

abbrev pub decreases-loop-v : goal.decreases-loop-v
decreases-loop-v l = l.v
