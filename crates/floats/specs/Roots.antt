-- The square root of a float, told from every other float by squares of whole numbers. Assumes nothing.
use Rattle.std.specs.Prelude.{◌≡◌, ℕ, ◌+◌, ◌*◌, ◌^◌, ◌<◌, false, cond, T, ◌⊎◌, ◌≢◌, unsigned_abs, Float}
use Rattle.std.specs.Float.Ieee.{low, fits}
use Rattle.std.specs.Float.Ieee.Positive.{positive}
use Rattle.std.specs.Float.{float_zero, float_is_finite, is_sign_negative, Format, nan}
use Rattle.exact.specs.Values.{value}
use Rattle.floats.specs.Arithmetic.{◌≺◌}

-- the size of a finite float in units of the format's smallest value, 2 ^ -low
abbrev pub units : Format → Float → ℕ
units f x = unsigned_abs (value f x)

abbrev square : ℕ → ℕ
square n = n * n

-- y is farther than r from the root of x. With X, R and Y their sizes in units, the square of the root is X * 2 ^ low, and the middle of r and y is (R + Y) / 2:
-- y is farther where the middle lies strictly between the root and y.
abbrev pub Farther : Format → Float → Float → Float → Type 0
Farther f x r y =
    ((units f r < units f y) × (4 * units f x * 2 ^ low f < square (units f r + units f y)))
    ⊎ ((units f y < units f r) × (square (units f r + units f y) < 4 * units f x * 2 ^ low f))

-- r is finite and above zero, and every other finite float that is not negative is farther from the root of x
pub record NearestRoot (f : Format) (x r : Float) : Type 0 where
  pub above_zero : T (positive r)
  pub nearest : (y : Float) → T (fits f y) → T (float_is_finite y) → is_sign_negative y ≡ false → (y ≢ r) → Farther f x r y

-- the root of what is not both finite and above zero: NaN below zero, and otherwise itself (a zero of either sign, infinity, NaN)
abbrev pub root_of_other : Float → Float
root_of_other x = cond (x ≺ float_zero) nan x
