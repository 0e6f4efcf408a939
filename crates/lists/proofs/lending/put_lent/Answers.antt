use native.Mathlib.Omega.{arith}
use Rattle.text.proofs.Putting.{puts_after}
use Rattle.lists.proofs.lending.put_lent.Goals as goal

pub returns : goal.returns
returns c =
    record { puts = puts_after c.put_row-end.ensures.puts c.put_word.ensures; room = omega (arith, c.put_row-end.ensures.room, c.put_word.ensures.ends) }
