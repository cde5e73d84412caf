-- Angles in degrees: rounding near zero, reduction to a half turn either way, the difference of two longitudes in two parts, and which points are accepted. Assumes nothing.
use Rattle.std.specs.Prelude.{Bool, false, cond, ◌&&◌, Float}
use Rattle.std.specs.Float.Ieee.{neg}
use Rattle.std.specs.Float.{float_is_finite, float_with_sign}
use Rattle.floats.specs.Arithmetic.{◌⊕◌, ◌⊖◌, ◌⊗◌, ◌⊘◌, ◌⊛◌, ◌≺◌, ◌≼◌, ◌≻◌, ◌≽◌, ◌≗◌, bits}
use Rattle.floats.specs.Sums as Sums

-- ---- the numbers that are named: 0, 1, 2, 16, no number, and 90, 180 and 360 degrees

abbrev pub zero : Float
zero = bits 0

abbrev pub one : Float
one = bits 0x3ff0000000000000

abbrev pub two : Float
two = bits 0x4000000000000000

abbrev pub sixteen : Float
sixteen = bits 0x4030000000000000

abbrev pub not_a_number : Float
not_a_number = bits 0x7ff8000000000000

abbrev pub quarter_turn : Float
quarter_turn = bits 0x4056800000000000

abbrev pub half_turn : Float
half_turn = bits 0x4066800000000000

abbrev pub turn : Float
turn = bits 0x4076800000000000

-- ---- one angle

abbrev pub square : Float → Float
square x = x ⊗ x

-- A size below 1/16 keeps only the digits that a number near 1/16 has: z - (z - y) rounds twice, so that it is a whole multiple of 2 ^ -57.
abbrev pub coarse : Float → Float
coarse y = let z = one ⊘ sixteen in cond (y ≺ z) (z ⊖ (z ⊖ y)) y

-- x with its size made coarse; +0 for either zero
abbrev pub ang_round : Float → Float
ang_round x = let y = coarse (float_with_sign false x) in cond (x ≗ zero) zero (cond (x ≺ zero) (neg y) y)

-- what `%` leaves of a finite x, a zero with its sign; NaN otherwise
abbrev pub left_over : Float → Float → Float
left_over x y = cond (x ≗ zero) x (cond (float_is_finite x) (x ⊛ y) not_a_number)

-- the remainder of x by y that lies from -y/2 to y/2
abbrev pub remainder_of : Float → Float → Float
remainder_of x y = let z = left_over x y in cond (z ≺ neg y ⊘ two) (z ⊕ y) (cond (z ≺ y ⊘ two) z (z ⊖ y))

-- x less whole turns, above -180 and up to 180
unfoldable pub ang_normalize : Float → Float
ang_normalize x = let y = remainder_of x turn in cond (y ≗ neg half_turn) half_turn y

-- a latitude, or NaN where it is beyond a pole
abbrev pub lat_fix : Float → Float
lat_fix x = cond (float_with_sign false x ≻ quarter_turn) not_a_number x

-- ---- the difference y - x of two longitudes, reduced to a half turn either way

-- A difference d + t, in parts, whose first part is reduced: a half turn and more to the east is written as less than a half turn to the west.
abbrev pub start : Float → Float → Float
start d t = cond ((d ≗ half_turn) && (t ≻ zero)) (neg half_turn) d

-- the reduced first part of (-x) + y, both normalized
abbrev pub reduced_high : Float → Float → Float
reduced_high x y = ang_normalize (Sums.high (ang_normalize (neg x)) (ang_normalize y))

-- its second part
abbrev pub reduced_low : Float → Float → Float
reduced_low x y = Sums.low (ang_normalize (neg x)) (ang_normalize y)

-- the difference rounded
unfoldable pub ang_diff : Float → Float → Float
ang_diff x y = Sums.high (start (reduced_high x y) (reduced_low x y)) (reduced_low x y)

-- what the rounding left out
unfoldable pub ang_diff_error : Float → Float → Float
ang_diff_error x y = Sums.low (start (reduced_high x y) (reduced_low x y)) (reduced_low x y)

-- ---- points

-- a latitude from -90 to 90 and a finite longitude; NaN is in no range
abbrev pub accepts : Float → Float → Bool
accepts lat lon = (lat ≽ neg quarter_turn) && (lat ≼ quarter_turn) && float_is_finite lon
