use mathlib.Core.Path.{◌≡◌}
use Prim.Native.Nat.{◌≤◌, ◌^◌}
use native.Mathlib.Omega.{arith}
use lib.Pow.{pow_mono}
use Rattle.place.specs.Promises.{row_classes}
use Rattle.tidy.proofs.RowLaws.{taken_none, taken_next}
use Rattle.tidy.proofs.row.take_run.Goals as goal

pub loop-j-init : goal.loop-j-init
loop-j-init c = (omega arith, taken_none c.args.k c.args.anchor c.args.room.now c.told-room)

pub class_at-requires : goal.class_at-requires
class_at-requires c = (omega (arith, c.requires.0), c.requires.1, omega (arith, c.requires.2, c.loop-j-test.true))

pub bounds-room-class_at : goal.bounds-room-class_at
bounds-room-class_at c =
    let g : 2 ^ c.args.k ≤ row_classes = pow_mono c.requires.0 in
    omega (arith, c.class_at.ensures.below)

pub loop-j-preserved : goal.loop-j-preserved
loop-j-preserved c =
    let l = c.loop-j in (
      omega arith,
      rw (← c.class_at.ensures.is) at
          (taken_next c.args.k c.args.anchor l.j c.args.room.now l.room c.requires.0 (omega (arith, c.loop-j-test.true, c.requires.2)) l.invariant.1),
    )

pub returns : goal.returns
returns c =
    let l = c.loop-j in
    let a = c.args in
    let e : l.j ≡ a.blocks = omega arith in
    rw e at l.invariant.1
