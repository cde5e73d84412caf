-- The canonical form of an inverse problem, Karney (2013), eq. 44: the first point is the one farther from the equator and lies to the south, the second lies to the east. Assumes nothing.
-- All lengths depend on the four numbers of `Canonical` alone; the signs and the exchange lead back to the given points.
use Rattle.std.specs.Prelude.{Bool, true, false, cond, Float}
use Rattle.std.specs.Float.Ieee.{neg}
use Rattle.std.specs.Float.{float_with_sign}
use Rattle.floats.specs.Arithmetic.{◌⊖◌, ◌⊗◌, ◌≺◌, ◌≽◌}
use Rattle.geomath.specs.Angles.{zero, one, half_turn, ang_round, lat_fix, ang_diff, ang_diff_error}
use Rattle.inverse.specs.declared.canonical.Canonical.{Canonical}
use Rattle.inverse.specs.declared.canonical.Longitudes.{Longitudes}
use Rattle.inverse.specs.declared.canonical.Latitudes.{Latitudes}
use Rattle.inverse.specs.declared.canonical.Signs.{Signs}

-- ---- longitudes

-- 1 to the east, -1 to the west
abbrev pub eastward : Float → Float → Float
eastward lon1 lon2 = cond (ang_diff lon1 lon2 ≽ zero) one (neg one)

-- the difference of the longitudes, to the east
abbrev pub lon12_of : Float → Float → Float
lon12_of lon1 lon2 = eastward lon1 lon2 ⊗ ang_round (ang_diff lon1 lon2)

-- what it leaves of a half turn, with the part that the difference's rounding left out
abbrev pub lon12s_of : Float → Float → Float
lon12s_of lon1 lon2 = ang_round ((half_turn ⊖ lon12_of lon1 lon2) ⊖ eastward lon1 lon2 ⊗ ang_diff_error lon1 lon2)

unfoldable pub longitudes : Float → Float → Longitudes
longitudes lon1 lon2 = record { lonsign = eastward lon1 lon2; lon12 = lon12_of lon1 lon2; lon12s = lon12s_of lon1 lon2 }

-- ---- latitudes

abbrev pub rounded : Float → Float
rounded lat = ang_round (lat_fix lat)

-- the sign that brings a latitude to the south
abbrev pub southward : Float → Float
southward lat = cond (lat ≺ zero) one (neg one)

unfoldable pub turned_south : Bool → Float → Float → Latitudes
turned_south swapped lat1 lat2 =
    record { swapped = swapped; latsign = southward lat1; lat1 = lat1 ⊗ southward lat1; lat2 = lat2 ⊗ southward lat1 }

-- the points are exchanged where the second is farther from the equator
unfoldable pub sorted : Float → Float → Latitudes
sorted lat1 lat2 = cond (float_with_sign false lat1 ≺ float_with_sign false lat2) (turned_south true lat2 lat1) (turned_south false lat1 lat2)

unfoldable pub latitudes : Float → Float → Latitudes
latitudes lat1 lat2 = sorted (rounded lat1) (rounded lat2)

-- ---- the canonical form, and the way back

unfoldable pub canonical : Float → Float → Float → Float → Canonical
canonical lat1 lon1 lat2 lon2 =
    record {
      lon12 = (longitudes lon1 lon2).lon12;
      lon12s = (longitudes lon1 lon2).lon12s;
      lat1 = (latitudes lat1 lat2).lat1;
      lat2 = (latitudes lat1 lat2).lat2;
    }

-- -1 where the points are exchanged
abbrev pub swapp : Bool → Float
swapp s = cond s (neg one) one

-- an exchange also turns east and west
abbrev pub lonsign_of : Bool → Float → Float
lonsign_of s sign = cond s (sign ⊗ neg one) sign

-- the signs by which the sines and cosines of the azimuths, and the area, are multiplied
unfoldable pub signs_of : Bool → Float → Float → Signs
signs_of swapped lonsign latsign =
    record {
      swapped = swapped;
      salp = swapp swapped ⊗ lonsign_of swapped lonsign;
      calp = swapp swapped ⊗ latsign;
      area = swapp swapped ⊗ lonsign_of swapped lonsign ⊗ latsign;
    }

unfoldable pub signs : Float → Float → Float → Float → Signs
signs lat1 lon1 lat2 lon2 = signs_of (latitudes lat1 lat2).swapped (longitudes lon1 lon2).lonsign (latitudes lat1 lat2).latsign
