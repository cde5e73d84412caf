-- The mirror law: on every ellipsoid and over every function set, the lengths between two points do not depend on which of them comes first, on which side of the
-- equator they lie, or on whether east is counted to the left or to the right. Assumes nothing.
use Rattle.std.specs.Prelude.{◌≡◌, ℕ, true, false, T, Float}
use Rattle.std.specs.Float.Ieee.{neg, fits}
use Rattle.std.specs.Float.{float_with_sign, binary64}
use Rattle.functions.specs.Sets.{Funcs}
use Rattle.floats.specs.Arithmetic.{◌≼◌, bits}
use Rattle.geomath.specs.Angles.{accepts}
use Rattle.inverse.specs.Inverse.{inverse}
use Rattle.ellipsoid.specs.declared.shape.Ellipsoid.{Ellipsoid}
use Rattle.inverse.specs.declared.problem.Directions.{Directions}
use Rattle.inverse.specs.declared.problem.Inverse.{Inverse}

-- 2 ^ -57 degree
abbrev pub least_latitude : Float
least_latitude = bits 0x3c60000000000000

-- a point in doubles that the inverse accepts, at least 2 ^ -57 degree off the equator
pub record OffEquator (lat lon : Float) : Type 0 where
  pub lat_double : T (fits binary64 lat)
  pub lon_double : T (fits binary64 lon)
  pub accepted : accepts lat lon ≡ true
  pub off : (least_latitude ≼ float_with_sign false lat) ≡ true

-- the same bits in s12, a12 and m12
pub record SameLengths (r q : Inverse Directions) : Type 0 where
  pub s12 : r.s12 ≡ q.s12
  pub a12 : r.a12 ≡ q.a12
  pub m12 : r.m12 ≡ q.m12

-- of two points: exchanged, with both latitudes mirrored, and with both longitudes mirrored
pub record Mirrored (F : Funcs) (E : Ellipsoid) (mask : ℕ) (lat1 lon1 lat2 lon2 : Float) : Type 0 where
  pub exchanged : SameLengths (inverse F E mask lat2 lon2 lat1 lon1) (inverse F E mask lat1 lon1 lat2 lon2)
  pub latitudes : SameLengths (inverse F E mask (neg lat1) lon1 (neg lat2) lon2) (inverse F E mask lat1 lon1 lat2 lon2)
  pub longitudes : SameLengths (inverse F E mask lat1 (neg lon1) lat2 (neg lon2)) (inverse F E mask lat1 lon1 lat2 lon2)

abbrev pub MirrorLaw : Type 0
MirrorLaw =
    (F : Funcs) (E : Ellipsoid) (mask : ℕ) (lat1 lon1 lat2 lon2 : Float) → OffEquator lat1 lon1 → OffEquator lat2 lon2 → Mirrored F E mask lat1 lon1 lat2 lon2
