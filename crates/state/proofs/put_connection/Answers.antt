use native.Mathlib.Omega.{arith}
use Rattle.text.proofs.Putting.{puts_length}
use Rattle.state.proofs.StateLaws.{connection_line_lem}
use Rattle.state.proofs.put_connection.Goals as goal

pub put_share-requires : goal.put_share-requires
put_share-requires c =
    let w = c.put_run-a.ensures in
    omega (arith, c.requires, w.room, puts_length w.puts)

pub returns : goal.returns
returns c =
    let s = c.args in
    let w = c.put_run-a.ensures in
    let q = c.put_share.ensures in
    record { puts = connection_line_lem s.handle s.c w.puts q.puts; room = omega (arith, w.room, q.room) }
