use mathlib.Core.Path.{subst}
use Rattle.tidy.specs.Promises.{TidiesTo}
use Rattle.tidy.proofs.tidying.tidy.Goals as goal

pub returns-in-Ok : goal.returns-in-Ok
returns-in-Ok c = subst (TidiesTo c.args.s c.args.moves.now _) c.in-Ok.is c.tidied.ensures

pub returns-in-Err : goal.returns-in-Err
returns-in-Err c = subst (TidiesTo c.args.s c.args.moves.now _) c.in-Err.is c.tidied.ensures
