-- What the reduction of a longitude and the difference of two mean in exact numbers: whole multiples of 2 ^ -1074 degree. Assumes nothing.
use Rattle.std.specs.Prelude.{◌≡◌, ℕ, true, ℤ, ◌+ℤ◌, ◌-ℤ◌, unsigned_abs, Float}
use Rattle.std.specs.Float.Ieee.{prec}
use Rattle.std.specs.Float.{float_is_finite, binary64}
use Rattle.exact.specs.Rounded.{rounded_z}
use Rattle.exact.specs.Values.{value}
use Rattle.exact.specs.Congruent.{Reduced}
use Rattle.geomath.specs.Angles.{half_turn, ang_normalize, ang_diff, ang_diff_error}

-- 180 degrees
unfoldable pub half : ℕ
half = unsigned_abs (value binary64 half_turn)

abbrev pub exactly : Float → ℤ
exactly x = value binary64 x

-- the normalized angle is finite, and it is x less whole turns, above -180 and up to 180 degrees
pub record Normalized (x : Float) : Type 0 where
  pub is_finite : float_is_finite (ang_normalize x) ≡ true
  pub reduced : Reduced half (exactly x) (exactly (ang_normalize x))

-- Both parts are finite, and together they are exactly y - x less whole turns, above -180 and up to 180 degrees: of the longitudes as they are given, and of the
-- normalized ones. The first part is that difference, rounded.
pub record Difference (x y : Float) : Type 0 where
  pub first_finite : float_is_finite (ang_diff x y) ≡ true
  pub second_finite : float_is_finite (ang_diff_error x y) ≡ true
  pub total : Reduced half (exactly y -ℤ exactly x) (exactly (ang_diff x y) +ℤ exactly (ang_diff_error x y))
  pub normalized : Reduced half (exactly (ang_normalize y) -ℤ exactly (ang_normalize x)) (exactly (ang_diff x y) +ℤ exactly (ang_diff_error x y))
  pub nearest : exactly (ang_diff x y) ≡ rounded_z (prec binary64) (exactly (ang_diff x y) +ℤ exactly (ang_diff_error x y))
