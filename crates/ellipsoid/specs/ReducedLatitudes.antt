-- The two ends of a geodesic on the auxiliary sphere: sine and cosine of the reduced latitudes β, tan β = (1 - f) tan φ, and dn = √(1 + e'² sin² β); and the longitude difference λ12. Assumes nothing.
use Rattle.std.specs.Prelude.{Bool, false, cond, not, ◌&&◌, Float}
use Rattle.std.specs.Float.Ieee.{neg}
use Rattle.std.specs.Float.{float_with_sign}
use Rattle.functions.specs.Sets.{Funcs}
use Rattle.floats.specs.Arithmetic.{◌⊕◌, ◌⊖◌, ◌⊗◌, ◌≺◌, ◌≻◌, ◌≗◌}
use Rattle.floats.specs.Choices.{larger_of}
use Rattle.geomath.specs.Angles.{zero, one, square, quarter_turn}
use Rattle.series.specs.Degrees.{sind, cosd, radians}
use Rattle.series.specs.Vectors.{norm_x, norm_y}
use Rattle.ellipsoid.specs.Constants.{tiny, root}
use Rattle.ellipsoid.specs.declared.shape.Ellipsoid.{Ellipsoid}
use Rattle.ellipsoid.specs.declared.latitudes.Ends.{Ends}
use Rattle.ellipsoid.specs.declared.latitudes.Difference.{Difference}

-- sin β and cos β of a latitude; at a pole the cosine is tiny rather than 0, so that longitudes keep a meaning
unfoldable pub sin_reduced : Funcs → Ellipsoid → Float → Float
sin_reduced F E lat = norm_x F (sind F lat ⊗ E.f1) (cosd F lat)

unfoldable pub cos_reduced : Funcs → Ellipsoid → Float → Float
cos_reduced F E lat = larger_of (norm_y F (sind F lat ⊗ E.f1) (cosd F lat)) tiny

unfoldable pub dn_of : Ellipsoid → Float → Float
dn_of E sbet = root (one ⊕ E.ep2 ⊗ square sbet)

-- Where the latitudes agree in size to the last digit of the smaller of sine and cosine, the other figure is made to agree too, so that the symmetry is exact.

abbrev pub steep : Float → Float → Bool
steep sbet1 cbet1 = cbet1 ≺ neg sbet1

abbrev pub matched_sine : Float → Float → Float → Float → Float
matched_sine sbet1 cbet1 sbet2 cbet2 = cond (steep sbet1 cbet1 && (cbet2 ≗ cbet1)) (cond (sbet2 ≺ zero) sbet1 (neg sbet1)) sbet2

abbrev pub matched_cosine : Float → Float → Float → Float → Float
matched_cosine sbet1 cbet1 sbet2 cbet2 = cond (not (steep sbet1 cbet1) && (float_with_sign false sbet2 ≗ neg sbet1)) cbet1 cbet2

abbrev pub matched : Ellipsoid → Float → Float → Float → Float → Ends
matched E sbet1 cbet1 sbet2 cbet2 =
    record {
      sbet1 = sbet1;
      cbet1 = cbet1;
      dn1 = dn_of E sbet1;
      sbet2 = matched_sine sbet1 cbet1 sbet2 cbet2;
      cbet2 = matched_cosine sbet1 cbet1 sbet2 cbet2;
      dn2 = dn_of E (matched_sine sbet1 cbet1 sbet2 cbet2);
    }

unfoldable pub ends_of : Funcs → Ellipsoid → Float → Float → Ends
ends_of F E lat1 lat2 = matched E (sin_reduced F E lat1) (cos_reduced F E lat1) (sin_reduced F E lat2) (cos_reduced F E lat2)

-- sine and cosine of β2 - β1
unfoldable pub sin_difference : Ends → Float
sin_difference e = e.sbet2 ⊗ e.cbet1 ⊖ e.cbet2 ⊗ e.sbet1

abbrev pub cos_difference : Ends → Float
cos_difference e = e.cbet2 ⊗ e.cbet1 ⊕ e.sbet2 ⊗ e.sbet1

-- sine and cosine of β2 + β1
unfoldable pub sin_sum : Ends → Float
sin_sum e = e.sbet2 ⊗ e.cbet1 ⊕ e.cbet2 ⊗ e.sbet1

abbrev pub cos_sum : Ends → Float
cos_sum e = e.cbet2 ⊗ e.cbet1 ⊖ e.sbet2 ⊗ e.sbet1

-- λ12 in radians with its sine and cosine; beyond a quarter turn these are taken from what is left of a half turn
unfoldable pub difference_of : Funcs → Float → Float → Difference
difference_of F lon12 lon12s =
    cond (lon12 ≻ quarter_turn)
    (record { lam12 = radians lon12; slam12 = sind F lon12s; clam12 = neg (cosd F lon12s) })
    (record { lam12 = radians lon12; slam12 = sind F lon12; clam12 = cosd F lon12 })
