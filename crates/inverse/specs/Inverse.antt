-- The inverse problem: the geodesic between two points given by latitude and longitude, with the figures that a mask wants; NaN for the others. Assumes nothing.
use Rattle.std.specs.Prelude.{ℕ, cond, Float}
use Rattle.functions.specs.Sets.{Funcs}
use Rattle.floats.specs.Arithmetic.{◌⊕◌, ◌⊗◌}
use Rattle.geomath.specs.Angles.{zero}
use Rattle.series.specs.Degrees.{atan2d}
use Rattle.inverse.specs.AreaTerm.{area_of}
use Rattle.inverse.specs.Canonical.{canonical, signs}
use Rattle.ellipsoid.specs.Capabilities.{distance, reduced_length, area, azimuth}
use Rattle.inverse.specs.Paths.{path_of, evaluations_of}
use Rattle.inverse.specs.Wanted.{wanted_or_nan}
use Rattle.ellipsoid.specs.ReducedLatitudes.{ends_of, difference_of}
use Rattle.inverse.specs.declared.canonical.Canonical.{Canonical}
use Rattle.inverse.specs.declared.canonical.Signs.{Signs}
use Rattle.ellipsoid.specs.declared.shape.Ellipsoid.{Ellipsoid}
use Rattle.inverse.specs.declared.problem.Inverse.{Inverse}
use Rattle.inverse.specs.declared.problem.Bearings.{Bearings}
use Rattle.inverse.specs.declared.problem.Directions.{Directions}
use Rattle.ellipsoid.specs.declared.latitudes.Ends.{Ends}
use Rattle.ellipsoid.specs.declared.latitudes.Difference.{Difference}
use Rattle.inverse.specs.declared.paths.Path.{Path}
use Rattle.surface.specs.declared.Edge.{Edge}

-- ---- in canonical form

-- a length where it is wanted; adding 0 makes a zero +0
abbrev pub length_if : ℕ → ℕ → Float → Float
length_if mask figure length = wanted_or_nan mask figure (zero ⊕ length)

abbrev pub area_if : Funcs → Ellipsoid → Ends → Difference → ℕ → Path → Float
area_if F E e d mask p = wanted_or_nan mask area (area_of F E e d p)

-- the wanted figures of a path
unfoldable pub measured : Funcs → Ellipsoid → Ends → Difference → ℕ → Path → Inverse Directions
measured F E e d mask p =
    record {
      a12 = p.a12;
      s12 = length_if mask distance p.s12x;
      directions = record { salp1 = p.alp1.salp; calp1 = p.alp1.calp; salp2 = p.alp2.salp; calp2 = p.alp2.calp };
      m12 = length_if mask reduced_length p.m12x;
      M12 = p.M12;
      M21 = p.M21;
      S12 = area_if F E e d mask p;
      evaluations = evaluations_of p.way;
    }

abbrev pub solved_between : Funcs → Ellipsoid → ℕ → Canonical → Ends → Difference → Inverse Directions
solved_between F E mask c e d = measured F E e d mask (path_of F E c e d mask)

-- everything before the signs: a function of the four numbers of the canonical form
unfoldable pub solved : Funcs → Ellipsoid → ℕ → Canonical → Inverse Directions
solved F E mask c = solved_between F E mask c (ends_of F E c.lat1 c.lat2) (difference_of F c.lon12 c.lon12s)

-- ---- back to the given points: what an exchange of the points exchanges, and the signs

abbrev pub exchanged_directions : Directions → Directions
exchanged_directions z = record { salp1 = z.salp2; calp1 = z.calp2; salp2 = z.salp1; calp2 = z.calp1 }

unfoldable pub exchanged : Inverse Directions → Inverse Directions
exchanged r = record r { directions = exchanged_directions r.directions; M12 = r.M21; M21 = r.M12 }

abbrev pub signed_directions : Signs → Directions → Directions
signed_directions k z = record { salp1 = z.salp1 ⊗ k.salp; calp1 = z.calp1 ⊗ k.calp; salp2 = z.salp2 ⊗ k.salp; calp2 = z.calp2 ⊗ k.calp }

-- adding 0 makes a zero +0
abbrev pub signed_area : Signs → ℕ → Float → Float
signed_area k mask S12 = wanted_or_nan mask area (S12 ⊗ k.area ⊕ zero)

unfoldable pub signed : Signs → ℕ → Inverse Directions → Inverse Directions
signed k mask r = record r { directions = signed_directions k r.directions; S12 = signed_area k mask r.S12 }

unfoldable pub restored : Signs → ℕ → Inverse Directions → Inverse Directions
restored k mask r = signed k mask (cond k.swapped (exchanged r) r)

-- the inverse problem, for any four floats
unfoldable pub inverse : Funcs → Ellipsoid → ℕ → Float → Float → Float → Float → Inverse Directions
inverse F E mask lat1 lon1 lat2 lon2 = restored (signs lat1 lon1 lat2 lon2) mask (solved F E mask (canonical lat1 lon1 lat2 lon2))

-- what an edge of an outline takes from it
abbrev pub edge_from : Inverse Directions → Edge
edge_from r = record { s12 = r.s12; S12 = r.S12; evaluations = r.evaluations }

-- ---- with bearings in degrees

abbrev pub bearing_if : Funcs → ℕ → Float → Float → Float
bearing_if F mask salp calp = wanted_or_nan mask azimuth (atan2d F salp calp)

abbrev pub bearings : Funcs → ℕ → Directions → Bearings
bearings F mask z = record { azi1 = bearing_if F mask z.salp1 z.calp1; azi2 = bearing_if F mask z.salp2 z.calp2 }

abbrev pub with_bearings : Funcs → ℕ → Inverse Directions → Inverse Bearings
with_bearings F mask r =
    record {
      a12 = r.a12;
      s12 = r.s12;
      directions = bearings F mask r.directions;
      m12 = r.m12;
      M12 = r.M12;
      M21 = r.M21;
      S12 = r.S12;
      evaluations = r.evaluations;
    }

unfoldable pub inverse_azi : Funcs → Ellipsoid → ℕ → Float → Float → Float → Float → Inverse Bearings
inverse_azi F E mask lat1 lon1 lat2 lon2 = with_bearings F mask (inverse F E mask lat1 lon1 lat2 lon2)
