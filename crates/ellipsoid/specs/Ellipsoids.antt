-- An ellipsoid of revolution from its equatorial radius a and its flattening f: the constants that the inverse problem takes from them, and the whole area. Assumes nothing.
use Rattle.std.specs.Prelude.{false, cond, Float}
use Rattle.std.specs.Float.Ieee.{neg}
use Rattle.std.specs.Float.{float_with_sign}
use Rattle.functions.specs.Sets.{Funcs}
use Rattle.floats.specs.Arithmetic.{◌⊕◌, ◌⊖◌, ◌⊗◌, ◌⊘◌, ◌≺◌, ◌≗◌, bits}
use Rattle.floats.specs.Choices.{larger_of, smaller_of}
use Rattle.geomath.specs.Angles.{zero, one, two, square}
use Rattle.series.specs.Degrees.{π}
use Rattle.series.specs.Eccentric.{eatanhe}
use Rattle.ellipsoid.specs.Constants.{four, tenth, thousandth, tol2, root}
use Rattle.ellipsoid.specs.Tables.{rows_of, coeff_a3, degrees_a3, coeff_c3, degrees_c3, coeff_c4, degrees_c4}
use Rattle.ellipsoid.specs.declared.shape.Ellipsoid.{Ellipsoid}

-- e², the eccentricity's square; negative on a prolate ellipsoid
abbrev pub e2_of : Float → Float
e2_of f = f ⊗ (two ⊖ f)

-- the polar half axis
abbrev pub b_of : Float → Float → Float
b_of a f = a ⊗ (one ⊖ f)

-- the third flattening (a - b)/(a + b)
abbrev pub n_of : Float → Float
n_of f = f ⊘ (two ⊖ f)

-- the eccentricity with the flattening's sign
abbrev pub eccentricity : Float → Float
eccentricity f = cond (f ≺ zero) (neg one) one ⊗ root (float_with_sign false (e2_of f))

-- (atanh e)/e, which is 1 on a sphere
abbrev pub area_ratio : Funcs → Float → Float
area_ratio F f = cond (e2_of f ≗ zero) one (eatanhe F one (eccentricity f) ⊘ e2_of f)

-- the square of the authalic radius, Karney (2013), eq. 60
unfoldable pub c2_of : Funcs → Float → Float → Float
c2_of F a f = (square a ⊕ square (b_of a f) ⊗ area_ratio F f) ⊘ two

-- Up to this arc a line is so short that the sphere of its mean latitude is accurate enough: the error of the third power of the arc, times the flattening, stays below tol2.
unfoldable pub etol2_of : Float → Float
etol2_of f = tenth ⊗ tol2 ⊘ root (larger_of (float_with_sign false f) thousandth ⊗ smaller_of (one ⊖ f ⊘ two) one ⊘ two)

unfoldable pub ellipsoid : Funcs → Float → Float → Ellipsoid
ellipsoid F a f =
    record {
      a = a;
      f = f;
      f1 = one ⊖ f;
      e2 = e2_of f;
      ep2 = e2_of f ⊘ square (one ⊖ f);
      n = n_of f;
      b = b_of a f;
      c2 = c2_of F a f;
      etol2 = etol2_of f;
      A3x = rows_of (n_of f) coeff_a3 degrees_a3;
      C3x = rows_of (n_of f) coeff_c3 degrees_c3;
      C4x = rows_of (n_of f) coeff_c4 degrees_c4;
    }

-- the area of the whole ellipsoid
unfoldable pub whole_of : Ellipsoid → Float
whole_of E = E.c2 ⊗ four ⊗ π

-- the WGS84 ellipsoid: a, and f = 1/298.257223563
abbrev pub wgs84_a : Float
wgs84_a = bits 0x415854a640000000

abbrev pub wgs84_f : Float
wgs84_f = bits 0x3f6b775a84f3e128
