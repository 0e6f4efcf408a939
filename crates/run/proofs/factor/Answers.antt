use Rattle.run.proofs.Numbers.{shifted}
use Rattle.run.proofs.factor.Goals as goal

pub returns : goal.returns
returns c = shifted c.args.k c.requires
