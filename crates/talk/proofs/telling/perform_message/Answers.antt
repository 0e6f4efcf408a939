use mathlib.Core.Path.{subst}
use Prim.Native.Nat.{◌≤◌}
use native.Mathlib.Omega.{arith}
use lib.ListN.{length, take, length-take}
use Rattle.hexadecimal.specs.Lending.{most_buffer}
use Rattle.talk.specs.Promises.{Within, reads, writes}
use Rattle.talk.proofs.telling.perform_message.Goals as goal

pub returns-in-Read : goal.returns-in-Read
returns-in-Read c = reads _ c.put_read.ensures

pub returns-in-Write : goal.returns-in-Write
returns-in-Write c =
    let n = c.in-Write.n in
    let lent = c.asked_of.new.bytes in
    let w = subst (Within _) c.in-Write.is c.asked_of.ensures in
    let l : length (take n lent) ≤ most_buffer = omega (arith, length-take n lent, w) in
    writes _ (length (take n lent)) l c.put_written.ensures
