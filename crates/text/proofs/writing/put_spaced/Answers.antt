use native.Mathlib.Omega.{arith}
use lib.ListN.{length-set}
use Rattle.text.proofs.Putting.{spaced_length, puts_spaced}
use Rattle.text.proofs.writing.put_spaced.Goals as goal

-- `text::put_spaced` meets its contract: a space, and the digits behind it.
pub bounds-out-at : goal.bounds-out-at
bounds-out-at c = omega (arith, spaced_length c.args.n)

pub put_decimal-requires : goal.put_decimal-requires
put_decimal-requires c = simp length-set (omega (arith, c.requires, spaced_length c.args.n))

pub returns : goal.returns
returns c =
    let a = c.args in
    puts_spaced a.out.now c.put_decimal.new.out a.at a.n c.put_decimal.result c.put_decimal.ensures
