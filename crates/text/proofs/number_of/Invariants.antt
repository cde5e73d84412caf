-- What is read so far and the digits to come write the whole number; it has no more digits than were read.
use Rattle.std.proofs.Common.{◌≡◌, ◌^◌, ◌<◌, drop}
use Rattle.std.specs.Str.Parse.{digits_value, digits_value_after}
use Rattle.text.specs.Patterns.{hexadecimal}
use Rattle.text.proofs.number_of.Given as goal

abbrev pub invariant-loop-byte : goal.invariant-loop-byte
invariant-loop-byte l =
    (hexadecimal (drop l.byte-index l.digits) ≡ hexadecimal l.digits)
    × (digits_value_after 16 l.number (drop l.byte-index l.digits) ≡ digits_value 16 l.digits)
    × (l.number < 16 ^ l.byte-index)
