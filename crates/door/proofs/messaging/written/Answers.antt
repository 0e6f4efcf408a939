use native.Mathlib.Omega.{arith}
use Rattle.hci.proofs.Calls.{wrote_few}
use Rattle.door.proofs.messaging.written.Goals as goal

pub map_or_else-requires-clause-f_callable : goal.map_or_else-requires-clause-f_callable
map_or_else-requires-clause-f_callable c = λ x e p q.
    let done = c.write_message in
    let after = done.new.buffer in
    omega (arith, wrote_few c.args.message c.args.buffer.now after done.result done.ensures x e)
