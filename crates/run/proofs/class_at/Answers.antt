use borrow.Author.Rules.{rules}
use Prim.Native.Nat.{◌+◌}
use native.Mathlib.Nat.{mod-lt}
use lib.Pow.{pow_pos}
use Rattle.run.proofs.Numbers.{masked}
use Rattle.run.proofs.class_at.Goals as goal

pub returns : goal.returns
returns c =
    let a = c.args in
    rw (masked a.k (a.anchor + a.j) c.factor.result c.factor.ensures.is)
    (record { is = search rules; below = mod-lt (a.anchor + a.j) (pow_pos a.k) })
