use native.Mathlib.Omega.{arith}
use Rattle.text.proofs.Putting.{puts_after}
use Rattle.answer.proofs.put_reply.Goals as goal

pub returns : goal.returns
returns c =
    let p = c.put_words-a.ensures in
    let q = c.put_word.ensures in
    record { line = puts_after p.puts q; room = omega (arith, p.room, q.ends) }
