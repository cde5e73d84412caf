-- The area S12 between a geodesic and the equator, Karney (2013), eqs. 58, 59 and 62: c² (α2 - α1), the area on the authalic sphere, and the term by which the ellipsoid differs. Assumes nothing.
use Rattle.std.specs.Prelude.{false, cond, ◌&&◌, ◌||◌, List, Float}
use Rattle.std.specs.Float.Ieee.{neg}
use Rattle.functions.specs.Sets.{Funcs}
use Rattle.floats.specs.Arithmetic.{◌⊕◌, ◌⊖◌, ◌⊗◌, ◌≺◌, ◌≻◌, ◌≗◌}
use Rattle.geomath.specs.Angles.{zero, one, two, square}
use Rattle.series.specs.Clenshaw.{sin_cos_series}
use Rattle.series.specs.Vectors.{norm_x, norm_y}
use Rattle.ellipsoid.specs.Constants.{tiny, root_half, seven_quarters}
use Rattle.ellipsoid.specs.Expansions.{C4f, epsilon}
use Rattle.ellipsoid.specs.declared.arcs.Azimuth.{Azimuth}
use Rattle.ellipsoid.specs.declared.shape.Ellipsoid.{Ellipsoid}
use Rattle.ellipsoid.specs.declared.latitudes.Ends.{Ends}
use Rattle.ellipsoid.specs.declared.latitudes.Difference.{Difference}
use Rattle.inverse.specs.declared.paths.Path.{Path}
use Rattle.inverse.specs.declared.paths.Way.{Way}
use Rattle.inverse.specs.declared.paths.Way.TheVariants.{Meridian, Direct, Newton}

-- ---- the ellipsoid's term e² a² cos α0 sin α0 (I4(σ2) - I4(σ1))

-- the azimuth at the node
abbrev pub salp0 : Ends → Path → Float
salp0 e p = p.alp1.salp ⊗ e.cbet1

abbrev pub calp0 : Funcs → Ends → Path → Float
calp0 F e p = F.hypot_of p.alp1.calp (p.alp1.salp ⊗ e.sbet1)

-- I4 at the end of the reduced latitude β, where the azimuth's cosine is calp, from the coefficients C4
unfoldable pub integral4 : Funcs → List Float → Float → Float → Float → Float
integral4 F c4 sbet cbet calp = sin_cos_series false (norm_x F sbet (calp ⊗ cbet)) (norm_y F sbet (calp ⊗ cbet)) c4

abbrev pub epsilon_at : Ellipsoid → Float → Float
epsilon_at E calp = epsilon (square calp ⊗ E.ep2)

abbrev pub scale4 : Ellipsoid → Float → Float → Float
scale4 E salp calp = square E.a ⊗ calp ⊗ salp ⊗ E.e2

unfoldable pub excess_at : Funcs → Ellipsoid → Ends → Path → Float → Float → Float
excess_at F E e p salp calp =
    scale4 E salp calp
    ⊗ (integral4 F (C4f E (epsilon_at E calp)) e.sbet2 e.cbet2 p.alp2.calp
    ⊖ integral4 F (C4f E (epsilon_at E calp)) e.sbet1 e.cbet1 p.alp1.calp)

-- along the equator and along a meridian there is none
unfoldable pub excess : Funcs → Ellipsoid → Ends → Path → Float
excess F E e p =
    cond ((calp0 F e p ≗ zero) || (salp0 e p ≗ zero)) zero (excess_at F E e p (salp0 e p) (calp0 F e p))

-- ---- α12 = α2 - α1

-- sine and cosine of ω12 where it is λ12 less domg12
unfoldable pub sin_less : Funcs → Difference → Float → Float
sin_less F d domg12 = d.slam12 ⊗ F.cos_of domg12 ⊖ d.clam12 ⊗ F.sin_of domg12

unfoldable pub cos_less : Funcs → Difference → Float → Float
cos_less F d domg12 = d.clam12 ⊗ F.cos_of domg12 ⊕ d.slam12 ⊗ F.sin_of domg12

-- by half angles from ω12 and the latitudes, for a line that is not too long
unfoldable pub turn_by_omega : Funcs → Ends → Float → Float → Float
turn_by_omega F e somg12 comg12 =
    two ⊗ F.atan2_of
    (somg12 ⊗ (e.sbet1 ⊗ (one ⊕ e.cbet2) ⊕ e.sbet2 ⊗ (one ⊕ e.cbet1)))
    ((one ⊕ comg12) ⊗ (e.sbet1 ⊗ e.sbet2 ⊕ (one ⊕ e.cbet1) ⊗ (one ⊕ e.cbet2)))

-- from the azimuths themselves; a half turn has the sign that it has on the way over the pole
abbrev pub salp12 : Azimuth → Azimuth → Float
salp12 z z2 = z2.salp ⊗ z.calp ⊖ z2.calp ⊗ z.salp

abbrev pub calp12 : Azimuth → Azimuth → Float
calp12 z z2 = z2.calp ⊗ z.calp ⊕ z2.salp ⊗ z.salp

unfoldable pub turn_by_azimuths : Funcs → Azimuth → Azimuth → Float
turn_by_azimuths F z z2 =
    cond ((salp12 z z2 ≗ zero) && (calp12 z z2 ≺ zero))
    (F.atan2_of (tiny ⊗ z.calp) (neg one))
    (F.atan2_of (salp12 z z2) (calp12 z z2))

-- from ω12 where it is up to three quarters of a half turn and the latitudes are not nearly a half turn apart
abbrev pub turn_around : Funcs → Ends → Path → Float → Float → Float
turn_around F e p somg12 comg12 =
    cond ((comg12 ≻ neg root_half) && (e.sbet2 ⊖ e.sbet1 ≺ seven_quarters)) (turn_by_omega F e somg12 comg12) (turn_by_azimuths F p.alp1 p.alp2)

-- ω12 is known where the longitude equation was not evaluated, and else λ12 less it
abbrev pub turn_along : Funcs → Ends → Difference → Path → Way → Float
turn_along F e d p Meridian = turn_by_azimuths F p.alp1 p.alp2
turn_along F e d p (Direct omg12) = turn_around F e p (F.sin_of omg12) (F.cos_of omg12)
turn_along F e d p (Newton domg12 count) = turn_around F e p (sin_less F d domg12) (cos_less F d domg12)

unfoldable pub turn_off : Funcs → Ends → Difference → Path → Float
turn_off F e d p = turn_along F e d p p.way

-- ---- S12 in canonical form

unfoldable pub area_of : Funcs → Ellipsoid → Ends → Difference → Path → Float
area_of F E e d p = excess F E e p ⊕ E.c2 ⊗ turn_off F e d p
