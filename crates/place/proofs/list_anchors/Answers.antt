use mathlib.Core.Path.{◌≡◌}
use Prim.Native.Nat.{◌/◌, ◌^◌}
use native.Mathlib.Omega.{arith}
use Rattle.place.proofs.SearchLaws.{listed_more, listed_all}
use Rattle.place.proofs.list_anchors.Goals as goal

pub loop-p-preserved : goal.loop-p-preserved
loop-p-preserved c =
    let l = c.loop-p in
    rw (← c.factor.ensures.is) at (listed_more c.args.k l.p l.anchors c.requires (omega (arith, c.factor.ensures.is)) l.invariant)

pub returns : goal.returns
returns c =
    let l = c.loop-p in
    let k = c.args.k in
    let e : l.p ≡ 2 ^ k / 2 = omega (arith, c.factor.ensures.is) in
    listed_all k l.anchors (rw e at l.invariant)
