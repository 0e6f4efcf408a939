use mathlib.Core.Path.{ap}
use Prim.Native.Nat.{ℕ}
use lib.Dec.{ltb}
use Rattle.rules.specs.Ownership.{belongs, owns}
use Rattle.blocks.proofs.ClassLaws.{within_depth}
use Rattle.questions.proofs.owns.Goals as goal

pub minus_mod-requires : goal.minus_mod-requires
minus_mod-requires c = rw c.from.ensures (within_depth (c.requires c.if-c.true).deep)

pub returns-then-c : goal.returns-then-c
unfolding owns belongs
returns-then-c c =
    let is = rw c.from.ensures at c.minus_mod.ensures.is in
    rw (c.if-c.true, c.from-then-c.ensures) (ap (λ (o : ℕ). ltb o c.args.c.length) is)

pub returns-else-c : goal.returns-else-c
unfolding owns
returns-else-c c = rw c.if-c.false
