use mathlib.Core.Path.{◌∙◌}
use Prim.Native.Nat.{◌<◌, ◌^◌}
use native.Mathlib.Omega.{arith}
use Rattle.run.proofs.Runs.{one_taken, one_given}
use Rattle.run.proofs.set_run.Goals as goal
use Rattle.run.proofs.set_run.Goals.{then-taken, else-taken}

pub loop-j-preserved : goal.loop-j-preserved
loop-j-preserved c =
    let r = c.class_at-r in
    let l = c.loop-j in
    let a = c.args in
    let room : l.j < 2 ^ a.k = omega arith in (
      omega arith,
      omega arith,
      elim c.if-taken.branch [
        | then-taken w ↦ λ f e.
            w.tree-is
            ∙ rw w.if-taken.true
            (one_taken a.k a.anchor a.from l.j r.result a.tree.now l.tree w.take_class.new.tree
            l.invariant.0 room r.ensures.is (rw w.if-taken.true at l.invariant.2) w.take_class.ensures f e)
        | else-taken w ↦ λ f e.
            w.tree-is
            ∙ rw w.if-taken.false
            (one_given a.k a.anchor a.from l.j r.result a.tree.now l.tree w.give_back.new.tree
            l.invariant.0 room r.ensures.is (rw w.if-taken.false at l.invariant.2) w.give_back.ensures f e)
      ],
    )
