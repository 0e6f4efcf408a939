use Rattle.std.proofs.Common.{arith}
use Rattle.std.proofs.lemmas.Result.{err_from_is_err_and}
use Rattle.frame.proofs.ReadLaws.{connections_more, connections_missing}
use Rattle.frame.proofs.pass_connections.Goals as goal

pub returns-in_err-cursor : goal.returns-in_err-cursor
returns-in_err-cursor c =
    let so_far = c.loop.invariant.1 in
    let none = c.in_err-cursor.ensures in
    let p = err_from_is_err_and c.from_residual.result c.from_residual.ensures.1 in
    rw (p.1, p.2)
    (none.0, connections_missing _ c.type_inv.bytes _ _ _ _ c.loop-test.true so_far none.1)

pub loop-preserved : goal.loop-preserved
loop-preserved c =
    let so_far = c.loop.invariant.1 in
    let r = c.in_ok-cursor.ensures in (
      omega arith,
      connections_more _ c.type_inv.bytes _ _ _ _ c.loop-test.true so_far _ r,
      omega (arith, r.1, r.0.fits),
    )
