-- Reduced areas on a surface of the area 8 and on the Earth's ellipsoid. Assumes nothing.
use Rattle.std.specs.Prelude.{◌≡◌, ℕ, Bool, true, false, ℤ, pos, neg_ℤ, Float}
use Rattle.std.specs.Float.{binary64}
use Rattle.std.specs.Float.Ieee.{of_int}
use Rattle.floats.specs.Arithmetic.{bits}
use Rattle.area.specs.declared.Winding.TheVariants.{Clockwise, CounterClockwise}
use Rattle.area.specs.Reduction.{reduced_area}
use Rattle.area.specs.AreaLaw.{WholeArea}

-- a whole number as a float
abbrev pub number : ℤ → Float
number z = of_int binary64 z

-- of a counterclockwise polygon, whose edge areas have a whole number as their sum
abbrev pub area_of : (signed odd : Bool) → ℕ → Float
area_of signed odd sum = reduced_area (number (pos 8)) CounterClockwise signed odd (number (pos sum))

-- the area of the Earth's ellipsoid (WGS84), and a sum just below zero
abbrev pub earth : Float
earth = bits 0x42fcfe6e831ebb97

abbrev pub below_zero : Float
below_zero = bits 0xbf90d66f0cfe1544

pub record ReducedExamples : Type 0 where
  pub whole : WholeArea (number (pos 8))
  pub three_signed : area_of true false 3 ≡ number (neg_ℤ (pos 3))
  pub three_unsigned : area_of false false 3 ≡ number (pos 5)
  pub three_signed_odd : area_of true true 3 ≡ number (pos 1)
  pub three_unsigned_odd : area_of false true 3 ≡ number (pos 1)
  pub four_signed : area_of true false 4 ≡ number (pos 4)
  pub four_unsigned : area_of false false 4 ≡ number (pos 4)
  pub whole_earth : WholeArea earth
  -- the upper end of the unsigned range is reached
  pub all_of_earth : reduced_area earth Clockwise false false below_zero ≡ earth
