use Prim.Native.Nat.{◌/◌, ◌<◌}
use native.Mathlib.Omega.{arith}
use Rattle.text.proofs.Putting.{digits_one, digits_more, puts_one, puts_more, puts_length}
use Rattle.text.proofs.writing.+put_decimal.Goals as goal

pub bounds-out-at : goal.bounds-out-at
bounds-out-at t c = omega (arith, c.requires, digits_one c.args.n c.if-n-lt10.true)

pub returns-then-n-lt10 : goal.returns-then-n-lt10
returns-then-n-lt10 t c = puts_one c.args.out.now c.args.at c.args.n c.if-n-lt10.true

pub put_decimal-next-requires : goal.put_decimal-next-requires
put_decimal-next-requires t c =
    let less : c.args.n / 10 < c.args.n = omega arith in
    (omega (arith, less), omega (arith, c.requires, digits_more c.args.n c.if-n-lt10.false))

pub bounds-out-next : goal.bounds-out-next
bounds-out-next t c =
    let p = c.put_decimal-next.ensures in
    omega (arith, c.requires, digits_more c.args.n c.if-n-lt10.false, p.ends, puts_length p)

pub overflow_add-result-2 : goal.overflow_add-result-2
overflow_add-result-2 t c =
    let p = c.put_decimal-next.ensures in
    omega (arith, c.requires, digits_more c.args.n c.if-n-lt10.false, p.ends, puts_length p)

pub returns : goal.returns
returns t c =
    puts_more c.args.out.now c.put_decimal-next.new.out c.args.at c.args.n c.put_decimal-next.result
    c.if-n-lt10.false c.put_decimal-next.ensures
