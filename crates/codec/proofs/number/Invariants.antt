use Rattle.std.proofs.Common.{◌≡◌, ◌-◌, ◌^◌, ◌<◌, ◌≤◌, length, take, drop}
use Rattle.rules.specs.Bytes.{little_number}
use Rattle.codec.proofs.Stores.{above}
use Rattle.codec.proofs.number.Given as goal

-- The bytes that are left, and above them the number read so far, say the number; it fits in as many bytes as were read.
abbrev pub invariant-loop-byte : goal.invariant-loop-byte
invariant-loop-byte l =
    let left = l.byte-iterator.iter.rest.now in
    record {
      says : above left l.n ≡ little_number (take l.width (drop l.at l.bytes));
      few : length left ≤ l.width;
      small : l.n < 256 ^ (l.width - length left);
    }
