use native.Mathlib.Omega.{arith}
use Rattle.text.proofs.Putting.{puts_after, puts_length, number_room}
use Rattle.text.proofs.writing.put_count.Goals as goal

pub put_spaced-requires : goal.put_spaced-requires
put_spaced-requires c =
    let w = c.put_word-a.ensures in
    omega (arith, c.requires, w.ends, puts_length w, number_room 9 c.args.n (omega arith))

pub returns : goal.returns
returns c =
    let w = c.put_word-a.ensures in
    let q = c.put_spaced.ensures in
    record { puts = puts_after w q; room = omega (arith, w.ends, q.ends, number_room 9 c.args.n (omega arith)) }
