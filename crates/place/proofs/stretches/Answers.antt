use mathlib.Core.Path.{◌≡◌}
use Prim.Native.Nat.{◌+◌, ◌-◌}
use native.Mathlib.Omega.{arith}
use Rattle.place.proofs.SearchLaws.{measured_taken, measured_free, measured_all}
use Rattle.place.proofs.stretches.Goals as goal
use Rattle.place.proofs.stretches.Goals.{then-taken, else-taken}

pub loop-c-preserved : goal.loop-c-preserved
loop-c-preserved g c =
    let l = c.loop-c in
    let e : l.c ≡ l.c - 1 + 1 = omega arith in
    let r = rw e at l.invariant in
    elim c.if-taken.branch [
      | then-taken w ↦ rw w.free-is (measured_taken c.args.k (l.c - 1) l.free _ l.room c.requires.deep r (rw w.if-taken.true at c.taken.ensures))
      | else-taken w ↦ rw w.free-is (measured_free c.args.k (l.c - 1) l.free _ l.room c.requires.deep r (rw w.if-taken.false at c.taken.ensures))
    ]

pub returns : goal.returns
returns g c =
    let l = c.loop-c in
    let e : l.c ≡ 0 = omega arith in
    measured_all c.args.k l.free _ l.room (rw e at l.invariant)
