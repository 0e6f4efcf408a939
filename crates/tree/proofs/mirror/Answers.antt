use Rattle.tree.proofs.SwapLaws.{mirror_swaps}
use Rattle.tree.proofs.mirror.Goals as goal

pub returns : goal.returns
returns c = mirror_swaps c.args.k c.args.p c.requires
