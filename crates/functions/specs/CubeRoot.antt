-- The cube root of the series set: the size is brought between 1 and 8 by a power of 8, and Newton's rule is taken five times. Assumes nothing.
use Rattle.std.specs.Prelude.{ℕ, zero, suc, ◌+◌, ◌-◌, ◌*◌, ◌/◌, ◌^◌, false, cond, not, ◌||◌, ◌==◌, unsigned_abs, Float}
use Rattle.std.specs.Float.Ieee.{size, round}
use Rattle.std.specs.Float.{float_is_finite, float_with_sign, binary64}
use Rattle.floats.specs.Arithmetic.{◌⊕◌, ◌⊖◌, ◌⊗◌, ◌⊘◌, ◌≗◌, bits}
use Rattle.floats.specs.Choices.{signed}
use Rattle.exact.specs.Values.{value}

-- the size of x in whole multiples of 2 ^ -1074
abbrev pub units_of : Float → ℕ
units_of x = unsigned_abs (value binary64 x)

-- The exponent e with 8 ^ e ≤ |x| < 8 ^ (e + 1), counted from 2 ^ -1074 = 8 ^ -358, so that it is never negative: this is e + 358.
unfoldable pub octave_of : Float → ℕ
octave_of x = (size (units_of x) - 1) / 3

-- the place of the leading digit of a float above zero, counted from that of 2 ^ -1074, by the float's pattern
abbrev pub place_of : ℕ → ℕ
place_of b = cond (b / 2 ^ 52 == 0) (size b - 1) (b / 2 ^ 52 + 51)

-- the float 2 ^ (j - 1074)
unfoldable pub power_of_two : ℕ → Float
power_of_two j = round binary64 false (2 ^ j) (2 ^ 1074)

-- 8 ^ e and 2 ^ e for the exponent e = k - 358
abbrev pub eight_to : ℕ → Float
eight_to k = power_of_two (3 * k)

abbrev pub two_to : ℕ → Float
two_to k = power_of_two (k + 716)

-- Newton's rule for the cube root of t
abbrev pub improved : Float → Float → Float
improved t y = (bits 0x4000000000000000 ⊗ y ⊕ t ⊘ (y ⊗ y)) ⊘ bits 0x4008000000000000

unfoldable pub improved_times : ℕ → Float → Float → Float
improved_times zero t y = y
improved_times (suc n) t y = improved_times n t (improved t y)

-- the first guess lies on the chord from 1 to 8
abbrev pub first_guess : Float → Float
first_guess t = bits 0x3ff0000000000000 ⊕ (t ⊖ bits 0x3ff0000000000000) ⊘ bits 0x401c000000000000

abbrev pub root_near : Float → Float
root_near t = improved_times 5 t (first_guess t)

-- of a positive x
abbrev pub root_of_size : Float → Float
root_of_size x = root_near (x ⊘ eight_to (octave_of x)) ⊗ two_to (octave_of x)

-- zeros, infinities and NaN give themselves
abbrev pub cube_root_of : Float → Float
cube_root_of x = cond (not (float_is_finite x) || (x ≗ bits 0)) x (signed (root_of_size (float_with_sign false x)) x)
