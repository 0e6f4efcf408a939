use native.Mathlib.Omega.{arith}
use Rattle.std.proofs.lemmas.Result.{err_from_is_err_and}
use Rattle.tidy.proofs.Outcomes.{none_found, short, room, done}
use Rattle.tidy.proofs.tidying.tidied.Goals as goal

pub returns-in_err-new : goal.returns-in_err-new
returns-in_err-new c =
    let p = err_from_is_err_and c.from_residual.result c.from_residual.ensures.1 in
    rw (p.1, p.2) (none_found c.args.s.now c.requires c.args.moves.now _ c.in_err-new.ensures)

pub returns-then-moves-n : goal.returns-then-moves-n
returns-then-moves-n c =
    let n = c.count_moves-n in
    short c.args.s.now c.requires c.args.moves.now _ c.in_ok-new.ensures n.result n.ensures (omega (arith, c.if-moves-n.true))

pub put_moves-requires : goal.put_moves-requires
put_moves-requires c =
    let n = c.count_moves-n in
    room c.args.s.now c.requires c.args.moves.now _ c.in_ok-new.ensures n.result n.ensures (omega (arith, c.if-moves-n.false))

pub returns : goal.returns
returns c =
    let n = c.count_moves-n in
    done c.args.s.now c.requires c.args.moves.now _ c.in_ok-new.ensures n.result n.ensures (omega (arith, c.if-moves-n.false)) _ c.put_moves.ensures
