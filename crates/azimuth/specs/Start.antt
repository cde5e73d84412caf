-- The starting point of the inverse problem, Karney (2013), section 5: the azimuth at the first point from the great circle of the auxiliary sphere, which already solves the problem for a short line,
-- or, for nearly antipodal points, from the astroid problem. Assumes nothing.
use Rattle.std.specs.Prelude.{Bool, false, cond, ◌&&◌, ◌||◌, is_nan, Option, Some, None, Float}
use Rattle.std.specs.Float.Ieee.{neg}
use Rattle.std.specs.Float.{float_with_sign}
use Rattle.functions.specs.Sets.{Funcs}
use Rattle.floats.specs.Arithmetic.{◌⊕◌, ◌⊖◌, ◌⊗◌, ◌⊘◌, ◌≺◌, ◌≻◌, ◌≽◌}
use Rattle.floats.specs.Choices.{larger_of, smaller_of}
use Rattle.geomath.specs.Angles.{zero, one, square, not_a_number}
use Rattle.series.specs.Astroid.{astroid}
use Rattle.series.specs.Degrees.{π}
use Rattle.series.specs.Vectors.{norm_x, norm_y}
use Rattle.ellipsoid.specs.Capabilities.{reduced_length}
use Rattle.ellipsoid.specs.Constants.{half, six, tenth, hundredth, tol1, xthresh, root}
use Rattle.ellipsoid.specs.Expansions.{A3f, epsilon}
use Rattle.ellipsoid.specs.Lengths.{lengths}
use Rattle.ellipsoid.specs.ReducedLatitudes.{sin_difference, cos_difference, sin_sum, cos_sum}
use Rattle.ellipsoid.specs.declared.arcs.Arc.{Arc}
use Rattle.ellipsoid.specs.declared.arcs.Azimuth.{Azimuth}
use Rattle.ellipsoid.specs.declared.shape.Ellipsoid.{Ellipsoid}
use Rattle.ellipsoid.specs.declared.latitudes.Ends.{Ends}
use Rattle.ellipsoid.specs.declared.latitudes.Difference.{Difference}
use Rattle.ellipsoid.specs.declared.lengths.Lengths.{Lengths}
use Rattle.azimuth.specs.declared.start.Turn.{Turn}
use Rattle.azimuth.specs.declared.start.GreatCircle.{GreatCircle}
use Rattle.azimuth.specs.declared.start.Scaled.{Scaled}
use Rattle.azimuth.specs.declared.start.Start.{Start}

-- ---- the spherical longitude difference ω12, eq. 48

unfoldable pub short_line : Ends → Difference → Bool
short_line e d = (cos_difference e ≽ zero) && (sin_difference e ≺ half) && (e.cbet2 ⊗ d.lam12 ≺ half)

-- the square of the sine of the mean reduced latitude
abbrev pub mean_square : Ends → Float
mean_square e = square (e.sbet1 ⊕ e.sbet2) ⊘ (square (e.sbet1 ⊕ e.sbet2) ⊕ square (e.cbet1 ⊕ e.cbet2))

unfoldable pub dn_mean : Ellipsoid → Ends → Float
dn_mean E e = root (one ⊕ E.ep2 ⊗ mean_square e)

abbrev pub mean_omega : Ellipsoid → Ends → Difference → Float
mean_omega E e d = d.lam12 ⊘ (E.f1 ⊗ dn_mean E e)

-- for a short line ω12 is λ12 as the sphere of the mean latitude has it; for another it is taken as λ12
unfoldable pub turn_of : Funcs → Ellipsoid → Ends → Difference → Turn
turn_of F E e d =
    cond (short_line e d)
    (record { dnm = Some (dn_mean E e); somg12 = F.sin_of (mean_omega E e d); comg12 = F.cos_of (mean_omega E e d) })
    (record { dnm = None; somg12 = d.slam12; comg12 = d.clam12 })

-- ---- the great circle, eqs. 49 to 51: azimuths times sin σ12, and σ12

-- cos α1 where cos ω12 is negative, written so that nothing cancels
unfoldable pub beyond_quarter : Ends → Float → Float → Float
beyond_quarter e somg12 comg12 = sin_sum e ⊖ e.cbet2 ⊗ e.sbet1 ⊗ square somg12 ⊘ (one ⊖ comg12)

unfoldable pub within_quarter : Ends → Float → Float → Float
within_quarter e somg12 comg12 = sin_difference e ⊕ e.cbet2 ⊗ e.sbet1 ⊗ square somg12 ⊘ (one ⊕ comg12)

unfoldable pub departing : Ends → Turn → Azimuth
departing e t =
    record {
      salp = e.cbet2 ⊗ t.somg12;
      calp = cond (t.comg12 ≽ zero) (within_quarter e t.somg12 t.comg12) (beyond_quarter e t.somg12 t.comg12);
    }

-- 1 - cos ω12
abbrev pub versine : Turn → Float
versine t = cond (t.comg12 ≽ zero) (square t.somg12 ⊘ (one ⊕ t.comg12)) (one ⊖ t.comg12)

abbrev pub arriving_cosine : Ends → Turn → Float
arriving_cosine e t = sin_difference e ⊖ e.cbet1 ⊗ e.sbet2 ⊗ versine t

unfoldable pub arriving : Funcs → Ends → Turn → Azimuth
arriving F e t =
    record {
      salp = norm_x F (e.cbet1 ⊗ t.somg12) (arriving_cosine e t);
      calp = norm_y F (e.cbet1 ⊗ t.somg12) (arriving_cosine e t);
    }

abbrev pub sin_arc : Funcs → Azimuth → Float
sin_arc F z = F.hypot_of z.salp z.calp

unfoldable pub cos_arc : Ends → Turn → Float
cos_arc e t = e.sbet1 ⊗ e.sbet2 ⊕ e.cbet1 ⊗ e.cbet2 ⊗ t.comg12

unfoldable pub great_circle_of : Funcs → Ends → Turn → GreatCircle
great_circle_of F e t =
    record { turn = t; alp1 = departing e t; ssig12 = sin_arc F (departing e t); csig12 = cos_arc e t }

unfoldable pub great_circle : Funcs → Ellipsoid → Ends → Difference → GreatCircle
great_circle F E e d = great_circle_of F e (turn_of F E e d)

-- an azimuth to the east, of length 1; where the sine is not positive, due east
unfoldable pub settled : Funcs → Azimuth → Azimuth
settled F z =
    cond ((z.salp ≻ zero) || is_nan z.salp)
    (record { salp = norm_x F z.salp z.calp; calp = norm_y F z.salp z.calp })
    (record { salp = one; calp = zero })

-- ---- nearly antipodal points, eq. 53: the second point as seen from the first one's antipode, in units in which the astroid has radius 1

abbrev pub from_antipode : Funcs → Difference → Float
from_antipode F d = F.atan2_of (neg d.slam12) (neg d.clam12)

abbrev pub oblate_scale : Ellipsoid → Ends → Float
oblate_scale E e = E.f ⊗ e.cbet1 ⊗ A3f E (epsilon (square e.sbet1 ⊗ E.ep2)) ⊗ π

-- on an oblate ellipsoid x goes by the longitude and y by the latitude
unfoldable pub oblate : Funcs → Ellipsoid → Ends → Difference → Scaled
oblate F E e d =
    record {
      x = from_antipode F d ⊘ oblate_scale E e;
      y = sin_sum e ⊘ (oblate_scale E e ⊗ e.cbet1);
      lamscale = oblate_scale E e;
    }

-- the meridian arc through the pole to the second point's latitude
abbrev pub meridian_arc : Funcs → Ends → Arc
meridian_arc F e =
    record { sig12 = π ⊕ F.atan2_of (sin_sum e) (cos_sum e); ssig1 = e.sbet1; csig1 = neg e.cbet1; ssig2 = e.sbet2; csig2 = e.cbet2 }

unfoldable pub meridian_lengths : Funcs → Ellipsoid → Ends → Lengths
meridian_lengths F E e = lengths E E.n (meridian_arc F e) e reduced_length

abbrev pub prolate_x : Ends → Lengths → Float
prolate_x e l = neg one ⊕ l.m12b ⊘ (e.cbet1 ⊗ e.cbet2 ⊗ l.m0 ⊗ π)

abbrev pub bet_scale : Ellipsoid → Ends → Float → Float
bet_scale E e x = cond (x ≺ neg hundredth) (sin_sum e ⊘ x) (neg E.f ⊗ square e.cbet1 ⊗ π)

abbrev pub prolate_scale : Ellipsoid → Ends → Float → Float
prolate_scale E e x = bet_scale E e x ⊘ e.cbet1

-- on a prolate one x goes by the latitude and y by the longitude
unfoldable pub prolate_at : Funcs → Ellipsoid → Ends → Difference → Float → Scaled
prolate_at F E e d x = record { x = x; y = from_antipode F d ⊘ prolate_scale E e x; lamscale = prolate_scale E e x }

unfoldable pub prolate : Funcs → Ellipsoid → Ends → Difference → Scaled
prolate F E e d = prolate_at F E e d (prolate_x e (meridian_lengths F E e))

unfoldable pub scaled_of : Funcs → Ellipsoid → Ends → Difference → Scaled
scaled_of F E e d = cond (E.f ≽ zero) (oblate F E e d) (prolate F E e d)

-- on the axis y = 0 within the astroid, eq. 57
abbrev pub on_axis : Scaled → Bool
on_axis s = (s.y ≻ neg tol1) && (s.x ≻ neg one ⊖ xthresh)

abbrev pub oblate_axis_sine : Scaled → Float
oblate_axis_sine s = smaller_of (neg s.x) one

abbrev pub prolate_axis_cosine : Scaled → Float
prolate_axis_cosine s = larger_of s.x (cond (s.x ≻ neg tol1) zero (neg one))

unfoldable pub axis_azimuth : Ellipsoid → Scaled → Azimuth
axis_azimuth E s =
    cond (E.f ≽ zero)
    (record { salp = oblate_axis_sine s; calp = neg (root (one ⊖ square (oblate_axis_sine s))) })
    (record { salp = root (one ⊖ square (prolate_axis_cosine s)); calp = prolate_axis_cosine s })

-- elsewhere ω12 as the astroid's root κ gives it, eq. 56, and from it the azimuth of the great circle
abbrev pub astroid_omega : Ellipsoid → Scaled → Float → Float
astroid_omega E s k = s.lamscale ⊗ cond (E.f ≽ zero) (neg s.x ⊗ k ⊘ (one ⊕ k)) (neg s.y ⊗ (one ⊕ k) ⊘ k)

unfoldable pub omega_azimuth : Funcs → Ends → Float → Azimuth
omega_azimuth F e omg12a =
    record { salp = e.cbet2 ⊗ F.sin_of omg12a; calp = beyond_quarter e (F.sin_of omg12a) (neg (F.cos_of omg12a)) }

unfoldable pub antipodal : Funcs → Ellipsoid → Ends → Scaled → Azimuth
antipodal F E e s =
    cond (on_axis s) (axis_azimuth E s) (omega_azimuth F e (astroid_omega E s (astroid F s.x s.y)))

-- ---- the start

-- far enough from the antipode for the great circle's azimuth to do
unfoldable pub far_from_antipode : Ellipsoid → Ends → Float → Float → Bool
far_from_antipode E e ssig12 csig12 =
    (float_with_sign false E.n ≻ tenth) || (csig12 ≽ zero) || (ssig12 ≽ six ⊗ float_with_sign false E.n ⊗ π ⊗ square e.cbet1)

-- the azimuth at the first point for a line that is not short
unfoldable pub long_azimuth : Funcs → Ellipsoid → Ends → Difference → GreatCircle → Azimuth
long_azimuth F E e d c = cond (far_from_antipode E e c.ssig12 c.csig12) c.alp1 (antipodal F E e (scaled_of F E e d))

-- the start for such a line: -1 in the place of σ12
unfoldable pub long_start : Funcs → Ellipsoid → Ends → Difference → GreatCircle → Float → Start
long_start F E e d c dnm =
    record {
      sig12 = neg one;
      alp1 = settled F (long_azimuth F E e d c);
      alp2 = record { salp = not_a_number; calp = not_a_number };
      dnm = dnm;
    }

-- for a short line its arc and both azimuths
unfoldable pub short_start : Funcs → Ends → GreatCircle → Float → Start
short_start F e c dnm =
    record {
      sig12 = F.atan2_of c.ssig12 c.csig12;
      alp1 = settled F c.alp1;
      alp2 = arriving F e c.turn;
      dnm = dnm;
    }

-- by dn at the mean latitude, where ω12 was taken with it
unfoldable pub start_along : Funcs → Ellipsoid → Ends → Difference → GreatCircle → Option Float → Start
start_along F E e d c (Some dnm) = cond (c.ssig12 ≺ E.etol2) (short_start F e c dnm) (long_start F E e d c dnm)
start_along F E e d c None = long_start F E e d c not_a_number

unfoldable pub inverse_start : Funcs → Ellipsoid → Ends → Difference → Start
inverse_start F E e d = start_along F E e d (great_circle F E e d) (great_circle F E e d).turn.dnm
