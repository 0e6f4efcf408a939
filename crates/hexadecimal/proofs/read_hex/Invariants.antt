use Rattle.std.proofs.Common.{◌+◌, ◌*◌, length}
use Rattle.hexadecimal.proofs.HexReading.{Read}
use Rattle.hexadecimal.proofs.read_hex.Given as goal

-- The pairs before the one at i are read.
abbrev pub invariant-loop-i : goal.invariant-loop-i
invariant-loop-i l = Read l.line l.at (length l.initial.bytes) l.bytes (l.at + 2 * l.i) l.i
