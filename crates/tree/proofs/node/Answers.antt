use Rattle.tree.proofs.Bits.{node_number}
use Rattle.tree.proofs.node.Goals as goal

pub returns : goal.returns
returns c = rw c.mirror.ensures.is (node_number c.args.k c.args.r c.requires)
