-- Neither surface of a sheet is refused, by computation: the shape of WGS84 and the scale of the plate are within range, and so are their whole areas.
use Rattle.std.proofs.Common.{refl}
use lib.Ieee as Ieee
use lib.Ieee.{of_bits, of_fields, neg, add, sub, mul, div, rem, round, units, size, span, climb, lt, le, eq, of_int, is_nan}
use lib.Count.{count_trailing_zeros}
use Rattle.std.specs.Float as Floats
use Rattle.floats.specs.Polynomials.{horner, polynomial}
use Rattle.functions.specs.Coefficients.{sign_of, down_from, area_terms}
use Rattle.series.specs.Eccentric.{eatanhe}
use Rattle.ellipsoid.specs.Ellipsoids.{c2_of, ellipsoid, whole_of}
use Rattle.geodesic.specs.Shapes.{shape_refusal}
use Rattle.drawing.specs.Surfaces.{surface_refusal, Stand}

pub stand : Stand
unfolding surface_refusal shape_refusal whole_of ellipsoid c2_of eatanhe polynomial horner area_terms down_from sign_of Floats.sqrt Ieee.root_twice Ieee.root_below Floats.float_is_finite Floats.float_with_sign of_int of_bits of_fields neg add sub mul div rem Ieee.sum round units size span climb lt le eq Ieee.odd count_trailing_zeros
stand = record { ellipsoid_stands = refl; plate_stands = refl }
