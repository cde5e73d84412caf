-- The hypotenuse of the series set. Assumes nothing.
use Rattle.std.specs.Prelude.{false, cond, ◌||◌, is_nan, Float}
use Rattle.std.specs.Float.{float_is_infinite, float_with_sign, sqrt, binary64}
use Rattle.floats.specs.Arithmetic.{◌⊕◌, ◌⊗◌, ◌⊘◌, ◌≗◌, bits}
use Rattle.floats.specs.Choices.{larger_of, smaller_of}

-- by the longer and the shorter of the two sides
abbrev pub across_of : Float → Float → Float
across_of long short = cond (long ≗ bits 0) (bits 0) (long ⊗ sqrt binary64 (bits 0x3ff0000000000000 ⊕ (short ⊘ long) ⊗ (short ⊘ long)))

-- infinite where either is, even beside a NaN
abbrev pub hypotenuse_of : Float → Float → Float
hypotenuse_of x y =
    cond (float_is_infinite x || float_is_infinite y) (bits 0x7ff0000000000000)
    (cond (is_nan x || is_nan y) (bits 0x7ff8000000000000)
    (across_of (larger_of (float_with_sign false x) (float_with_sign false y)) (smaller_of (float_with_sign false x) (float_with_sign false y))))
