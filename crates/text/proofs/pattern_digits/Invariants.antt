-- The digits still to be written, of what is left of the pattern, stand before those that are written.
use Rattle.std.proofs.Common.{◌≡◌, ◌++◌, length, drop}
use Rattle.text.specs.Patterns.{hex_digits, pattern_digits}
use Rattle.text.proofs.pattern_digits.Given as goal

abbrev pub invariant-loop-i : goal.invariant-loop-i
invariant-loop-i l = (hex_digits l.i l.rest ++ drop l.i l.digits ≡ pattern_digits l.x) × (length l.digits ≡ 16)
