use Rattle.std.proofs.Common.{rules, tests, ◌≡◌, ◌<◌, length}
use native.Mathlib.Omega.{arith}
use Rattle.command.proofs.Whole.{so_far_line, so_far_tail, so_far_all, prints_long, prints_answered}
use Rattle.command.proofs.running.answer_all.Goals as goal

pub returns-then-input-gt-MOST_INPUT : goal.returns-then-input-gt-MOST_INPUT
returns-then-input-gt-MOST_INPUT c =
    prints_long c.args.input.now c.args.out.now c.put_word.new.out c.put_word.result c.if-input-gt-MOST_INPUT.true c.put_word.ensures

pub loop-line-preserved : goal.loop-line-preserved
loop-line-preserved c =
    let l = c.loop-line in
    so_far_line c.args.input.now c.args.out.now l.out l.rest.now l.s l.at l.invariant c.in-Some.line.now c.in-Some.later.now c.in-Some.ensures c.carry_out-at.ensures

pub returns-then-is_empty : goal.returns-then-is_empty
returns-then-is_empty c =
    let l = c.loop-line in
    let none : length l.rest.now ≡ 0 = search (rules, tests) in
    let t = so_far_all c.args.input.now c.args.out.now l.out l.rest.now l.s l.at l.invariant none in
    prints_answered c.args.input.now c.args.out.now l.out l.at c.if-input-gt-MOST_INPUT.false t (omega (arith, l.invariant.room, c.if-input-gt-MOST_INPUT.false))

pub returns-else-is_empty : goal.returns-else-is_empty
returns-else-is_empty c =
    let l = c.loop-line in
    let w = c.put_word-else-is_empty in
    let some : 0 < length l.rest.now = search (rules, tests) in
    let t = so_far_tail c.args.input.now c.args.out.now l.out l.rest.now l.s l.at l.invariant c.in_default.ensures some w.ensures in
    prints_answered c.args.input.now c.args.out.now w.new.out w.result c.if-input-gt-MOST_INPUT.false t (omega (arith, w.ensures.ends, l.invariant.room, c.if-input-gt-MOST_INPUT.false))
