use Rattle.rules.specs.Fields.{handle_in}
use Rattle.restore.proofs.handle_in.Goals as goal

pub returns : goal.returns
unfolding handle_in
returns c r e = rw e c.field.ensures.0
