use Rattle.std.proofs.Common.{take}
use Rattle.text.specs.Promises.{Puts}
use Rattle.hexadecimal.specs.Hex.{hex}
use Rattle.hexadecimal.proofs.put_hex.Given as goal

-- The bytes before b are put.
abbrev pub invariant-loop-b : goal.invariant-loop-b
invariant-loop-b l = Puts l.initial.out l.at (hex (take l.b-index l.bytes)) l.out l.next
