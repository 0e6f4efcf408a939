use mathlib.Core.Bool.{true}
use Rattle.rules.specs.Fields.{connection_in}
use Rattle.restore.proofs.connection_in.Goals as goal

pub returns : goal.returns
unfolding connection_in
returns c r e =
    rw e (λ i. record {
      live = true;
      k = c.field.ensures.0 i;
      length = c.field-2.ensures.0 i;
      floor = c.field-3.ensures.0 i;
      ceiling = c.field-4.ensures.0 i;
      anchor = c.field-5.ensures.0 i;
      estimate = c.field-6.ensures.0 i;
    })
