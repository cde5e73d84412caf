-- The larger and the smaller of two floats, and a copied sign. Of +0 and -0 the larger is +0 and the smaller -0; beside one NaN the other operand is answered;
-- the sign copied from a NaN is plus. Assumes nothing.
use Rattle.std.specs.Prelude.{cond, is_nan, Float}
use Rattle.std.specs.Float.{is_sign_negative, float_with_sign}
use Rattle.floats.specs.Arithmetic.{◌≺◌, ◌≗◌}

abbrev pub larger_of : Float → Float → Float
larger_of x y = cond (is_nan x) y (cond (is_nan y) x (cond (x ≗ y) (cond (is_sign_negative x) y x) (cond (x ≺ y) y x)))

abbrev pub smaller_of : Float → Float → Float
smaller_of x y = cond (is_nan x) y (cond (is_nan y) x (cond (x ≗ y) (cond (is_sign_negative x) x y) (cond (x ≺ y) x y)))

-- the size of x with the sign of y
abbrev pub signed : Float → Float → Float
signed x y = float_with_sign (is_sign_negative y) x
