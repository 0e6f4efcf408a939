-- `tree::write_below` meets its contract. The measure is the depth that remains.
use Rattle.tree.proofs.+write_below.Given as goal

abbrev pub decreases-write_below : goal.decreases-write_below
decreases-write_below l = l.left
