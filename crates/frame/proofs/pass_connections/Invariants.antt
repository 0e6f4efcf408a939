use Prim.Native.Nat.{◌≤◌}
use lib.ListN.{length}
use Rattle.frame.proofs.ReadLaws.{PassedSoFar}
use Rattle.frame.proofs.pass_connections.Given as goal

-- The invariant: as many of the records as are counted are passed, and it is up to the others, from
-- the cursor on.
abbrev pub invariant-loop : goal.invariant-loop
invariant-loop l =
    (l.counter ≤ l.n)
    × PassedSoFar l.bytes l.at l.n l.counter l.cursor
    × (l.cursor ≤ length l.bytes)
