use mathlib.Core.Path.{◌≡◌}
use Prim.Native.Nat.{◌+◌}
use lib.ListN.{length, take}
use lib.Seq.{sets}
use Rattle.rules.specs.Records.{joined}
use Rattle.rules.specs.Image.{connection_pieces}
use Rattle.image.proofs.saving.put_connections.Given as goal

-- `image::put_connections` meets its contract. The invariant: the records of the handles before h are written.
abbrev pub invariant-loop-h : goal.invariant-loop-h
invariant-loop-h l =
    let written = joined (connection_pieces 0 (take l.h l.connections)) in
    (l.buffer ≡ sets l.initial.buffer l.at written) × (l.next ≡ l.at + length written)
