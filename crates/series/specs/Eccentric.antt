-- The term e atanh(e x) of the area of an ellipsoid's zones, es being the eccentricity e with the sign of the flattening:
-- on a prolate ellipsoid e is imaginary and the term is -|e| atan(|e| x). Assumes nothing.
use Rattle.std.specs.Prelude.{cond, Float}
use Rattle.std.specs.Float.Ieee.{neg}
use Rattle.functions.specs.Sets.{Funcs}
use Rattle.floats.specs.Arithmetic.{◌⊗◌, ◌≻◌}
use Rattle.geomath.specs.Angles.{zero}

unfoldable pub eatanhe : Funcs → Float → Float → Float
eatanhe F x es = cond (es ≻ zero) (es ⊗ F.atanh_of (es ⊗ x)) (neg es ⊗ F.atan_of (es ⊗ x))
