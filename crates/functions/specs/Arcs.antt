-- The inverse functions of the series set: arc tangent, the angle of a point, area tangent. Assumes nothing.
use Rattle.std.specs.Prelude.{false, cond, ◌||◌, is_nan, Float}
use Rattle.std.specs.Float.Ieee.{neg}
use Rattle.std.specs.Float.{float_is_infinite, is_sign_negative, float_with_sign}
use Rattle.floats.specs.Arithmetic.{◌⊕◌, ◌⊖◌, ◌⊗◌, ◌⊘◌, ◌≺◌, ◌≼◌, ◌≻◌, ◌≗◌, bits}
use Rattle.floats.specs.Choices.{signed}
use Rattle.floats.specs.Polynomials.{polynomial}
use Rattle.functions.specs.Coefficients.{π, arc_terms, area_terms}

-- π/2, π/4 and 3π/4
abbrev pub quarter_turn : Float
quarter_turn = π ⊘ bits 0x4000000000000000

abbrev pub eighth_turn : Float
eighth_turn = π ⊘ bits 0x4010000000000000

abbrev pub three_eighths : Float
three_eighths = bits 0x4008000000000000 ⊗ π ⊘ bits 0x4010000000000000

-- the series of the arc tangent at a small u
abbrev pub arc_near : Float → Float
arc_near u = u ⊗ polynomial (u ⊗ u) arc_terms

-- above √2 - 1, the tangent of π/8, the arc is an eighth turn more than that of (x - 1)/(x + 1)
abbrev pub arc_to_one : Float → Float
arc_to_one x = cond (x ≻ bits 0x3fda827999fcef33) (eighth_turn ⊕ arc_near ((x ⊖ bits 0x3ff0000000000000) ⊘ (x ⊕ bits 0x3ff0000000000000))) (arc_near x)

-- above 1 the arc is what the arc of 1/x leaves of a quarter turn
abbrev pub arc_from_zero : Float → Float
arc_from_zero x = cond (x ≻ bits 0x3ff0000000000000) (quarter_turn ⊖ arc_to_one (bits 0x3ff0000000000000 ⊘ x)) (arc_to_one x)

-- the arc of a negative x mirrors that of its size
unfoldable pub arc_tangent_of : Float → Float
arc_tangent_of x = cond (x ≺ bits 0) (neg (arc_from_zero (neg x))) (arc_from_zero x)

-- the size of the angle of (x, y), by the smaller of the two quotients, where neither is zero or infinite
abbrev pub slant_of : Float → Float → Float
slant_of rise run = cond (rise ≼ run) (arc_tangent_of (rise ⊘ run)) (quarter_turn ⊖ arc_tangent_of (run ⊘ rise))

abbrev pub slope_of : Float → Float → Float
slope_of y x = cond (x ≺ bits 0) (π ⊖ slant_of (float_with_sign false y) (float_with_sign false x)) (slant_of (float_with_sign false y) (float_with_sign false x))

-- where y is infinite
abbrev pub upright_of : Float → Float
upright_of x = cond (float_is_infinite x) (cond (x ≺ bits 0) three_eighths eighth_turn) quarter_turn

-- along the axis of x: half a turn where x is negative, as -0 is
abbrev pub level_of : Float → Float
level_of x = cond (is_sign_negative x) π (bits 0)

-- the size of the angle of (x, y): zeros and infinities as Annex F of the C standard has them
abbrev pub angle_size_of : Float → Float → Float
angle_size_of y x =
    cond (y ≗ bits 0) (level_of x)
    (cond (x ≗ bits 0) quarter_turn
    (cond (float_is_infinite y) (upright_of x)
    (cond (float_is_infinite x) (level_of x) (slope_of y x))))

-- the angle of (x, y), with the sign of y
abbrev pub angle_of : Float → Float → Float
angle_of y x = cond (is_nan x || is_nan y) (bits 0x7ff8000000000000) (signed (angle_size_of y x) y)

abbrev pub area_tangent_of : Float → Float
area_tangent_of x = x ⊗ polynomial (x ⊗ x) area_terms
