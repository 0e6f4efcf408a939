use mathlib.Core.Path.{ap}
use Rattle.rules.specs.Answers.{of_saving}
use Rattle.image.proofs.Calls.{saved_fits}
use Rattle.door.proofs.imaging.beak_saved.Goals as goal

pub map_or_else-requires-clause-f_callable : goal.map_or_else-requires-clause-f_callable
map_or_else-requires-clause-f_callable c = λ x e p q.
    let done = c.save in
    record {
      fits = saved_fits c.args.s c.requires c.args.buffer.now done.new.buffer done.result
          done.ensures x (ap of_saving e);
    }
