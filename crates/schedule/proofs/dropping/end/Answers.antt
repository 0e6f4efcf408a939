use Rattle.std.proofs.lemmas.Result.{err_from_is_err_and}
use native.Mathlib.Omega.{arith}
use Rattle.blocks.proofs.ScheduleLaws.{good_sound}
use Rattle.schedule.proofs.Exits.{treed, drops, drop_refused, drop_made}
use Rattle.schedule.proofs.dropping.end.Goals as goal

-- a check refuses
pub returns-in_err-c : goal.returns-in_err-c
returns-in_err-c c =
    let p = err_from_is_err_and c.from_residual.result c.from_residual.ensures.1 in
    rw (p.1, p.2) (drop_refused c.args.s.now c.requires c.args.handle _ c.in_err-c.ensures)

pub settle-requires : goal.settle-requires
settle-requires c =
    let l = c.in_ok-c.ensures in
    let n = (good_sound c.args.s.now c.requires).numbers _ l.live in
    rw l.is (n, omega arith, treed c.args.s.now c.requires)

pub returns : goal.returns
returns c =
    let s = c.args.s.now in
    let l = c.in_ok-c.ensures in
    drops s c.requires _ _
    (drop_made s c.requires _ l.bounded l.live _ c.settle.result _ c.nobody.ensures
    (rw l.is at c.settle.ensures))
