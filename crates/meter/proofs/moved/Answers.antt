use mathlib.Core.Path.{sym}
use Rattle.calls.proofs.MeterLaws.{moved_up, moved_down}
use Rattle.meter.proofs.moved.Goals as goal

pub returns-then-estimate-sample : goal.returns-then-estimate-sample
returns-then-estimate-sample c = sym (moved_up c.args.estimate c.args.sample c.if-estimate-sample.true)

pub returns-else-estimate-sample : goal.returns-else-estimate-sample
returns-else-estimate-sample c = sym (moved_down c.args.estimate c.args.sample c.if-estimate-sample.false)
