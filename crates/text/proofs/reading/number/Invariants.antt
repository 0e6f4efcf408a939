use Rattle.std.proofs.Common.{◌≡◌, ◌^◌, ◌<◌, take}
use Rattle.rules.specs.Decimal.{value}
use Rattle.text.proofs.Digits.{DigitsTo}
use Rattle.text.proofs.reading.number.Given as goal

-- The bytes read are digits, and value is what they say.
abbrev pub invariant-loop-byte : goal.invariant-loop-byte
invariant-loop-byte l = record {
  says : l.value ≡ value (take l.byte-index l.digits);
  small : l.value < 2 ^ 32;
  digits : DigitsTo l.digits l.byte-index;
}
