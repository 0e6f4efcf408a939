use Rattle.std.proofs.Common.{arith, ◌+◌}
use Rattle.text.proofs.Rows.{found_within, so_far_all, so_far_wrong, so_far_full, so_far_no_number, so_far_more}
use Rattle.text.proofs.reading.read_row.Goals as goal

pub returns-then-count-numbers : goal.returns-then-count-numbers
returns-then-count-numbers c =
    let l = c.loop-next in
    let a = c.args in
    so_far_full a.line.now a.at a.numbers.now l.numbers l.next l.count l.invariant c.loop-next-test.true c.if-count-numbers.true

pub returns-then-line-next-ne32 : goal.returns-then-line-next-ne32
returns-then-line-next-ne32 c =
    let l = c.loop-next in
    let a = c.args in
    so_far_wrong a.line.now a.at a.numbers.now l.numbers l.next l.count l.invariant c.loop-next-test.true (λ ms g. c.if-line-next-ne32.true g.space)

pub slice_bounds-number-end : goal.slice_bounds-number-end
slice_bounds-number-end c = omega (arith, c.find-end.ensures, found_within 32 c.args.line.now (c.loop-next.next + 1) (omega arith))

pub returns-in_err-numbers : goal.returns-in_err-numbers
returns-in_err-numbers c =
    let l = c.loop-next in
    let a = c.args in
    let f = c.find-end in
    rw c.from_residual.ensures
    (so_far_no_number a.line.now a.at a.numbers.now l.numbers l.next l.count l.invariant c.loop-next-test.true f.result f.ensures c.in_err-numbers.ensures)

pub loop-next-preserved : goal.loop-next-preserved
loop-next-preserved c =
    let l = c.loop-next in
    let a = c.args in
    let f = c.find-end in
    so_far_more a.line.now a.at a.numbers.now l.numbers l.next l.count l.invariant c.loop-next-test.true f.result f.ensures
    c.in_ok-numbers.field-0 c.if-line-next-ne32.false (omega (arith, l.invariant.within)) c.in_ok-numbers.ensures

pub returns : goal.returns
returns c =
    let l = c.loop-next in
    let a = c.args in
    so_far_all a.line.now a.at a.numbers.now l.numbers l.next l.count l.invariant c.loop-next-test.false
