use Prim.Native.Nat.{◌<◌, ◌/◌}
use borrow.Author.Tests.{ne_eqb}
use native.Mathlib.Omega.{arith}
use Rattle.tree.proofs.JoinLaws.{join_missing, join_stays, join_keeps}
use Rattle.tree.proofs.join_above.Goals as goal

pub returns-then-not-join : goal.returns-then-not-join
returns-then-not-join c =
    let l = c.loop-v in
    let j = c.join in
    let h : 1 < l.v = omega arith in
    let k = join_keeps l.v h j.ensures l.invariant.1 l.invariant.4 in
    record {
      sized = j.ensures.sized;
      joined = join_stays l.v h j.ensures c.if-not-join.true l.invariant.3;
      others = k.others;
      zeroth = k.zeroth;
    }

pub loop-v-preserved : goal.loop-v-preserved
loop-v-preserved c =
    let l = c.loop-v in
    let j = c.join in
    let h : 1 < l.v = omega arith in (
      omega arith,
      omega arith,
      j.ensures.sized,
      join_missing l.v h j.ensures l.invariant.3,
      join_keeps l.v h j.ensures l.invariant.1 l.invariant.4,
    )

pub returns : goal.returns
returns c =
    let l = c.loop-v in
    record {
      sized = l.invariant.2;
      joined = λ a h h2. l.invariant.3 a h h2 (ne_eqb a (l.v / 2) (omega arith));
      others = l.invariant.4.others;
      zeroth = l.invariant.4.zeroth;
    }
