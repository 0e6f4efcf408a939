use Rattle.std.proofs.Common.{◌≡◌, ◌/◌, ◌^◌, length, take}
use Rattle.rules.specs.Bytes.{little}
use Rattle.codec.proofs.put_number.Given as goal

-- The first bytes are written, and the rest of the number is left.
abbrev pub invariant-loop-byte : goal.invariant-loop-byte
invariant-loop-byte l = record {
  written : take l.byte-index l.byte-items ≡ little l.byte-index l.n;
  left : l.rest ≡ l.n / 256 ^ l.byte-index;
  sized : length l.byte-items ≡ l.width;
}
