use Rattle.tree.proofs.Bits.{writes}
use Rattle.tree.proofs.write_node.Goals as goal

-- `tree::write_node` meets its contract: one byte is replaced by one that differs in the node's bit alone.
pub returns : goal.returns
returns c =
    rw c.from.ensures
    (writes c.args.tree.now c.args.n (record { long = c.told-tree; small = c.fits-tree })
    c.requires c.args.taken)
