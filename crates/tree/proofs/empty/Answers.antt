use mathlib.Core.Path.{sym}
use Rattle.blocks.proofs.TreeLaws.{tree_empty}
use Rattle.tree.proofs.empty.Goals as goal

-- `tree::empty` meets its contract.
pub returns : goal.returns
returns c = sym tree_empty
