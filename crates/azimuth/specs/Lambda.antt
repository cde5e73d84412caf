-- The hybrid problem: the longitude λ12 that a geodesic from the first point at the azimuth α1 gains on its way to the second point's latitude, and its derivative by α1; Karney (2013), section 4. Assumes nothing.
use Rattle.std.specs.Prelude.{Bool, false, cond, ◌&&◌, Float}
use Rattle.std.specs.Float.Ieee.{neg}
use Rattle.std.specs.Float.{float_with_sign}
use Rattle.functions.specs.Sets.{Funcs}
use Rattle.floats.specs.Arithmetic.{◌⊕◌, ◌⊖◌, ◌⊗◌, ◌⊘◌, ◌≺◌, ◌≗◌}
use Rattle.floats.specs.Choices.{larger_of}
use Rattle.geomath.specs.Angles.{zero, two, square, not_a_number}
use Rattle.series.specs.Vectors.{norm_x, norm_y}
use Rattle.ellipsoid.specs.Arcs.{arc_of, wave}
use Rattle.ellipsoid.specs.Capabilities.{reduced_length}
use Rattle.ellipsoid.specs.Constants.{tiny, root}
use Rattle.ellipsoid.specs.Expansions.{A3f, C3f, epsilon}
use Rattle.ellipsoid.specs.Lengths.{lengths}
use Rattle.ellipsoid.specs.declared.arcs.Arc.{Arc}
use Rattle.ellipsoid.specs.declared.arcs.Azimuth.{Azimuth}
use Rattle.ellipsoid.specs.declared.shape.Ellipsoid.{Ellipsoid}
use Rattle.azimuth.specs.declared.lambda.Lambda.{Lambda}
use Rattle.azimuth.specs.declared.lambda.Trial.{Trial}
use Rattle.ellipsoid.specs.declared.latitudes.Ends.{Ends}
use Rattle.ellipsoid.specs.declared.latitudes.Difference.{Difference}

-- a geodesic that leaves along the equator is turned a little, so that its node is determined
unfoldable pub steered : Ends → Azimuth → Azimuth
steered e z = record { salp = z.salp; calp = cond ((e.sbet1 ≗ zero) && (z.calp ≗ zero)) (neg tiny) z.calp }

-- the azimuth α0 at the node, eq. 5
abbrev pub salp0 : Ends → Azimuth → Float
salp0 e z = z.salp ⊗ e.cbet1

abbrev pub calp0 : Funcs → Ends → Azimuth → Float
calp0 F e z = F.hypot_of z.calp (z.salp ⊗ e.sbet1)

unfoldable pub epsilon_of : Funcs → Ellipsoid → Ends → Azimuth → Float
epsilon_of F E e z = epsilon (square (calp0 F e z) ⊗ E.ep2)

-- the azimuth α2 at the second point, eqs. 5 and 45; equal latitudes give equal azimuths exactly
abbrev pub salp2_of : Ends → Azimuth → Float
salp2_of e z = cond (e.cbet2 ≗ e.cbet1) z.salp (salp0 e z ⊘ e.cbet2)

-- cos² β2 - cos² β1, by the smaller ones of sine and cosine
abbrev pub gain : Ends → Float
gain e = cond (e.cbet1 ≺ neg e.sbet1) ((e.cbet2 ⊖ e.cbet1) ⊗ (e.cbet1 ⊕ e.cbet2)) ((e.sbet1 ⊖ e.sbet2) ⊗ (e.sbet1 ⊕ e.sbet2))

abbrev pub calp2_of : Ends → Azimuth → Float
calp2_of e z =
    cond ((e.cbet2 ≗ e.cbet1) && (float_with_sign false e.sbet2 ≗ neg e.sbet1))
    (float_with_sign false z.calp)
    (root (square (z.calp ⊗ e.cbet1) ⊕ gain e) ⊘ e.cbet2)

unfoldable pub arrival : Ends → Azimuth → Azimuth
arrival e z = record { salp = salp2_of e z; calp = calp2_of e z }

-- the arc σ12 between the ends
unfoldable pub arc_between : Funcs → Ends → Azimuth → Azimuth → Arc
arc_between F e z z2 =
    arc_of F
    (norm_x F e.sbet1 (z.calp ⊗ e.cbet1)) (norm_y F e.sbet1 (z.calp ⊗ e.cbet1))
    (norm_x F e.sbet2 (z2.calp ⊗ e.cbet2)) (norm_y F e.sbet2 (z2.calp ⊗ e.cbet2))

-- the geodesic of the azimuth α1
unfoldable pub trial_of : Funcs → Ellipsoid → Ends → Azimuth → Trial
trial_of F E e z =
    record { alp1 = z; alp2 = arrival e z; arc = arc_between F e z (arrival e z); eps = epsilon_of F E e z }

-- the spherical longitude difference ω12, times a positive number, from the tangents of ω1 and ω2
abbrev pub somg12 : Ends → Azimuth → Azimuth → Float
somg12 e z z2 = larger_of ((z.calp ⊗ e.cbet1) ⊗ (salp0 e z ⊗ e.sbet2) ⊖ (salp0 e z ⊗ e.sbet1) ⊗ (z2.calp ⊗ e.cbet2)) zero

abbrev pub comg12 : Ends → Azimuth → Azimuth → Float
comg12 e z z2 = (z.calp ⊗ e.cbet1) ⊗ (z2.calp ⊗ e.cbet2) ⊕ (salp0 e z ⊗ e.sbet1) ⊗ (salp0 e z ⊗ e.sbet2)

-- ω12 less the wanted λ12
abbrev pub eta_at : Funcs → Difference → Float → Float → Float
eta_at F d s c = F.atan2_of (s ⊗ d.clam12 ⊖ c ⊗ d.slam12) (c ⊗ d.clam12 ⊕ s ⊗ d.slam12)

unfoldable pub eta_of : Funcs → Ends → Difference → Trial → Float
eta_of F e d t = eta_at F d (somg12 e t.alp1 t.alp2) (comg12 e t.alp1 t.alp2)

-- λ12 less ω12, eqs. 8 and 23
unfoldable pub domg12_of : Ellipsoid → Ends → Trial → Float
domg12_of E e t = neg E.f ⊗ A3f E t.eps ⊗ salp0 e t.alp1 ⊗ (t.arc.sig12 ⊕ wave t.arc (C3f E t.eps))

-- the derivative of λ12 by α1, eq. 46; where cos α2 = 0, its limit
unfoldable pub slope_of : Ellipsoid → Ends → Trial → Float
slope_of E e t =
    cond (t.alp2.calp ≗ zero)
    (neg two ⊗ E.f1 ⊗ e.dn1 ⊘ e.sbet1)
    ((lengths E t.eps t.arc e reduced_length).m12b ⊗ (E.f1 ⊘ (t.alp2.calp ⊗ e.cbet2)))

-- the derivative where it is wanted
abbrev pub slope_if : Bool → Ellipsoid → Ends → Trial → Float
slope_if diffp E e t = cond diffp (slope_of E e t) not_a_number

unfoldable pub lambda_along : Funcs → Ellipsoid → Ends → Difference → Bool → Trial → Lambda
lambda_along F E e d diffp t =
    record {
      lam12 = eta_of F e d t ⊕ domg12_of E e t;
      alp2 = t.alp2;
      arc = t.arc;
      eps = t.eps;
      domg12 = domg12_of E e t;
      dlam12 = slope_if diffp E e t;
    }

unfoldable pub lambda_from : Funcs → Ellipsoid → Ends → Difference → Azimuth → Bool → Lambda
lambda_from F E e d z diffp = lambda_along F E e d diffp (trial_of F E e z)

-- how far λ12 of the geodesic at the azimuth α1 is from the wanted one, with what goes with it
unfoldable pub lambda12 : Funcs → Ellipsoid → Ends → Difference → Azimuth → Bool → Lambda
lambda12 F E e d z diffp = lambda_from F E e d (steered e z) diffp
