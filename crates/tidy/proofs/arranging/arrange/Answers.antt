use native.Mathlib.Omega.{arith}
use Rattle.std.proofs.lemmas.Result.{err_from_is_err_and}
use Rattle.tidy.proofs.Placing.{all_begins, all_next, all_stops, all_ends}
use Rattle.tidy.proofs.arranging.arrange.Goals as goal

pub loop-k-init : goal.loop-k-init
loop-k-init c = all_begins c.args.s.now.connections c.fresh-new.result c.fresh-new.ensures.is

pub arrange_depth-requires : goal.arrange_depth-requires
arrange_depth-requires c = (c.requires, omega arith, c.loop-k.invariant.reaches)

pub loop-k-preserved : goal.loop-k-preserved
loop-k-preserved c =
    let l = c.loop-k in
    let d = c.arrange_depth in
    all_next c.args.s.now.connections l.k l.new d.new.new l.room d.new.room l.invariant d.result d.ensures c.in_ok-arrange_depth.was

pub returns-in_err-arrange_depth : goal.returns-in_err-arrange_depth
returns-in_err-arrange_depth c =
    let l = c.loop-k in
    let d = c.arrange_depth in
    let p = err_from_is_err_and c.from_residual.result c.from_residual.ensures.1 in
    rw (p.1, p.2)
    (all_stops c.args.s.now.connections l.k l.new d.new.new l.room d.new.room l.invariant d.result d.ensures (omega arith) _ c.in_err-arrange_depth.was)

pub returns : goal.returns
returns c =
    let l = c.loop-k in
    all_ends c.args.s.now.connections l.k l.new l.room l.invariant (omega arith)
