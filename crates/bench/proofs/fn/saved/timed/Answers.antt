use mathlib.Core.Path.{ap}
use Rattle.rules.specs.Answers.{of_saving}
use Rattle.image.proofs.Calls.{saved_fits}
use Rattle.bench.proofs.Sizes.{if_size}
use Rattle.bench.proofs.fn.saved.timed.Goals as goal

pub returns : goal.returns
returns c =
    let v = c.save in
    let s = c.captures.s in
    let before = c.captures.buffer.now in
    if_size v.result _
    (λ n e. saved_fits s c.requires before v.new.buffer v.result v.ensures n (ap of_saving e))
