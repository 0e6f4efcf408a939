use mathlib.Core.Path.{ap, ap₂, ◌∙◌}
use Prim.Native.Nat.{ℕ}
use Rattle.meter.specs.Moved.{list_micros, moved_meter}
use Rattle.rules.specs.declared.Meter.{Meter}
use Rattle.rules.specs.Meter.{need, target}
use Rattle.calls.proofs.MeterLaws.{moved_most}
use Rattle.meter.proofs.moved_meter.Goals as goal

pub need-requires : goal.need-requires
need-requires c =
    rw c.moved-e.ensures (moved_most c.args.m.estimate c.args.sample list_micros c.requires.0 c.requires.1)

abbrev made : ℕ → ℕ → Meter
made e n = record { estimate = e; length = n }

pub returns : goal.returns
unfolding moved_meter
returns c =
    let a = c.args in
    let e = c.moved-e.ensures in
    ap₂ made e
    (c.target.ensures ∙ ap (λ (n : ℕ). target n a.floor a.ceiling) (c.need.ensures ∙ ap need e))
