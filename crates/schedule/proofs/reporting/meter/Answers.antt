use mathlib.Core.Path.{sym}
use Prim.Native.Nat.{◌^◌, ◌≤◌}
use native.Mathlib.Omega.{arith}
use lib.Pow.{pow_mono}
use Rattle.std.proofs.lemmas.Result.{err_from_is_err_and}
use Rattle.rules.specs.Sound.{Numbers}
use Rattle.blocks.proofs.ScheduleLaws.{good_sound}
use Rattle.blocks.proofs.ClassLaws.{within_depth}
use Rattle.calls.proofs.ReportLaws.{report_7}
use Rattle.schedule.proofs.Exits.{treed, reports, report_refused, report_made, aim_below}
use Rattle.schedule.proofs.reporting.meter.Goals as goal
use Rattle.schedule.proofs.reporting.meter.Goals.{In_ok-c}

-- the numbers of the live connection
numbers : (c : In_ok-c) → Numbers c.in_ok-c.c
numbers c =
    let l = c.in_ok-c.ensures in
    rw l.is ((good_sound c.args.s.now c.requires).numbers _ l.live)

-- a check refuses
pub returns-in_err-c : goal.returns-in_err-c
returns-in_err-c c =
    let p = err_from_is_err_and c.from_residual.result c.from_residual.ensures.1 in
    rw (p.1, p.2) (report_refused c.args.s.now c.requires c.args.handle _ _ c.in_err-c.ensures)

pub returns-then-from-sample : goal.returns-then-from-sample
returns-then-from-sample c =
    let s = c.args.s.now in
    let l = c.in_ok-c.ensures in
    reports s c.requires _ _ _
    (sym (report_7 s _ _ l.bounded l.live (rw (c.from.ensures, l.is) at c.if-from-sample.true)))

pub move_meter-m-requires : goal.move_meter-m-requires
move_meter-m-requires c =
    let n = numbers (goal.at.move_meter-m-requires c).In_ok-c in
    let g : 2 ^ c.in_ok-c.c.k ≤ 512 = pow_mono (within_depth n.deep) in
    omega (arith, n, c.from.ensures, c.if-from-sample.false)

pub settle-to-requires : goal.settle-to-requires
settle-to-requires c =
    let n = numbers (goal.at.settle-to-requires c).In_ok-c in (
      n,
      aim_below c.in_ok-c.c c.args.sample c.move_meter-m.result n c.move_meter-m.ensures,
      treed c.args.s.now c.requires,
    )

pub returns : goal.returns
returns c =
    let s = c.args.s.now in
    let l = c.in_ok-c.ensures in
    reports s c.requires _ _ _
    (report_made s c.requires _ _ l.bounded l.live
    (rw (c.from.ensures, l.is) at c.if-from-sample.false)
    c.move_meter-m.result c.settle-to.result c.settle-to.new.tree _ _
    (rw l.is at c.move_meter-m.ensures) (rw l.is at c.settle-to.ensures)
    c.length_of.ensures (rw l.is at c.with_meter.ensures))
