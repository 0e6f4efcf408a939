use Rattle.run.proofs.Numbers.{masked, round}
use Rattle.run.proofs.minus_mod.Goals as goal

pub returns : goal.returns
returns c =
    let a = c.args in
    let f = c.factor-f in
    rw (masked a.k a.b f.result f.ensures.is, masked a.k a.a f.result f.ensures.is)
    (round a.k a.a a.b f.result f.ensures.is)
