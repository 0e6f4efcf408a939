use Prim.Native.Nat.{◌*◌}
use Rattle.place.proofs.SearchLaws.{ListedTo}
use Rattle.place.proofs.list_anchors.Given as goal

-- `place::list_anchors` meets its contract. The invariant: the anchors of the first 2p nodes have been listed.
abbrev pub invariant-loop-p : goal.invariant-loop-p
invariant-loop-p l = ListedTo l.k (2 * l.p) l.anchors
