-- Sine and cosine of an angle in degrees, and the angle of a point in degrees, over any function set. Assumes nothing.
use Rattle.std.specs.Prelude.{ℕ, ◌%◌, false, cond, ◌==◌, Float}
use Rattle.std.specs.Float.Ieee.{neg}
use Rattle.std.specs.Float.{float_with_sign}
use Rattle.functions.specs.Sets.{Funcs}
use Rattle.floats.specs.Arithmetic.{◌⊕◌, ◌⊖◌, ◌⊗◌, ◌⊘◌, ◌≺◌, ◌≻◌, ◌≽◌, bits}
use Rattle.geomath.specs.Angles.{zero, quarter_turn, half_turn}
use Rattle.floats.specs.Remainders.{zero_signed, rest_by90, quotient_by90}

abbrev pub π : Float
π = bits 0x400921fb54442d18

abbrev pub radians : Float → Float
radians x = x ⊗ (π ⊘ half_turn)

abbrev pub degrees : Float → Float
degrees x = x ⊗ (half_turn ⊘ π)

-- ---- sine and cosine: x is n quarter turns and a rest of at most an eighth turn, whose sine s and cosine c the function set gives

-- the sine of n quarter turns and that rest, for n modulo 4
abbrev pub turned_sine : ℕ → Float → Float → Float
turned_sine n s c = cond (n % 4 == 0) s (cond (n % 4 == 1) c (cond (n % 4 == 2) (neg s) (neg c)))

-- the cosine of n quarter turns and that rest
abbrev pub turned_cosine : ℕ → Float → Float → Float
turned_cosine n s c = cond (n % 4 == 0) c (cond (n % 4 == 1) (neg s) (cond (n % 4 == 2) (neg c) s))

-- a zero sine takes the sign of the angle
unfoldable pub sind : Funcs → Float → Float
sind F x = zero_signed x (turned_sine (quotient_by90 x) (F.sin_of (radians (rest_by90 x))) (F.cos_of (radians (rest_by90 x))))

-- adding +0 makes a zero cosine +0
unfoldable pub cosd : Funcs → Float → Float
cosd F x = turned_cosine (quotient_by90 x) (F.sin_of (radians (rest_by90 x))) (F.cos_of (radians (rest_by90 x))) ⊕ zero

-- ---- the angle of the point (x, y): the set's function is asked within an eighth turn of the positive axis of x only

abbrev pub near : Funcs → Float → Float → Float
near F y x = degrees (F.atan2_of y x)

-- nearer to the axis of x; a half turn away where x is negative, to the side of y
abbrev pub flat : Funcs → Float → Float → Float
flat F y x = cond (x ≺ zero) (cond (y ≽ zero) half_turn (neg half_turn) ⊖ near F y (neg x)) (near F y x)

-- nearer to the axis of y: the axes are exchanged
abbrev pub steep : Funcs → Float → Float → Float
steep F y x = cond (y ≺ zero) (near F x (neg y) ⊕ neg quarter_turn) (quarter_turn ⊖ near F x y)

unfoldable pub atan2d : Funcs → Float → Float → Float
atan2d F y x = cond (float_with_sign false y ≻ float_with_sign false x) (steep F y x) (flat F y x)
