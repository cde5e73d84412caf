-- The geodesic between two points in canonical form: along a meridian, along the equator, by the great circle of a short line, or by Newton's method. Assumes nothing.
use Rattle.std.specs.Prelude.{ℕ, Bool, cond, ◌&&◌, ◌||◌, bit_or, Float}
use Rattle.std.specs.Float.Ieee.{neg}
use Rattle.functions.specs.Sets.{Funcs}
use Rattle.floats.specs.Arithmetic.{◌⊗◌, ◌⊘◌, ◌≺◌, ◌≼◌, ◌≽◌, ◌≗◌}
use Rattle.geomath.specs.Angles.{zero, one, square, quarter_turn, half_turn}
use Rattle.series.specs.Degrees.{degrees}
use Rattle.ellipsoid.specs.Arcs.{arc_of}
use Rattle.ellipsoid.specs.Capabilities.{wants, distance, reduced_length, geodesic_scale, differential}
use Rattle.ellipsoid.specs.Constants.{three, tiny}
use Rattle.ellipsoid.specs.Lengths.{lengths}
use Rattle.azimuth.specs.Newton.{solved_azimuth}
use Rattle.azimuth.specs.Start.{inverse_start}
use Rattle.ellipsoid.specs.declared.arcs.Arc.{Arc}
use Rattle.ellipsoid.specs.declared.arcs.Azimuth.{Azimuth}
use Rattle.inverse.specs.declared.canonical.Canonical.{Canonical}
use Rattle.ellipsoid.specs.declared.shape.Ellipsoid.{Ellipsoid}
use Rattle.ellipsoid.specs.declared.latitudes.Ends.{Ends}
use Rattle.ellipsoid.specs.declared.latitudes.Difference.{Difference}
use Rattle.ellipsoid.specs.declared.lengths.Lengths.{Lengths}
use Rattle.azimuth.specs.declared.newton.Found.{Found}
use Rattle.inverse.specs.declared.paths.Path.{Path}
use Rattle.inverse.specs.declared.paths.Way.{Way}
use Rattle.inverse.specs.declared.paths.Way.TheVariants.{Meridian, Direct, Newton}
use Rattle.azimuth.specs.declared.start.Start.{Start}
use Rattle.inverse.specs.Wanted.{wanted_or_nan}

-- how many times the longitude equation was evaluated
abbrev pub evaluations_of : Way → ℕ
evaluations_of Meridian = 0
evaluations_of (Direct omg12) = 0
evaluations_of (Newton domg12 count) = count

-- ---- along a meridian

-- the first point is the south pole, or the longitudes are the same or opposite
unfoldable pub on_meridian : Canonical → Difference → Bool
on_meridian c d = (c.lat1 ≗ neg quarter_turn) || (d.slam12 ≗ zero)

-- the arc by way of the pole where the longitudes are opposite
unfoldable pub meridian_arc : Funcs → Ends → Difference → Arc
meridian_arc F e d = arc_of F e.sbet1 (d.clam12 ⊗ e.cbet1) e.sbet2 (one ⊗ e.cbet2)

unfoldable pub meridian_lengths : Ellipsoid → Arc → Ends → ℕ → Lengths
meridian_lengths E arc e mask = lengths E E.n arc e (bit_or (bit_or mask distance) reduced_length)

-- a meridian arc is the shortest way unless it passes its conjugate point, where the reduced length is negative
abbrev pub shortest : Arc → Lengths → Bool
shortest arc l = (arc.sig12 ≺ one) || (l.m12b ≽ zero)

-- a figure of an arc; the same points up to rounding have the distance 0
abbrev pub of_arc : Arc → Float → Float
of_arc arc figure = cond (arc.sig12 ≺ three ⊗ tiny) zero figure

unfoldable pub meridian_path : Ellipsoid → Difference → Arc → Lengths → Path
meridian_path E d arc l =
    record {
      s12x = of_arc arc l.s12b ⊗ E.b;
      m12x = of_arc arc l.m12b ⊗ E.b;
      a12 = degrees (of_arc arc arc.sig12);
      M12 = l.M12;
      M21 = l.M21;
      alp1 = record { salp = d.slam12; calp = d.clam12 };
      alp2 = record { salp = zero; calp = one };
      way = Meridian;
    }

-- ---- along the equator

-- both points lie on the equator, and the geodesic does not leave it for a shorter way
unfoldable pub on_equator : Ellipsoid → Canonical → Ends → Bool
on_equator E c e = (e.sbet1 ≗ zero) && ((E.f ≼ zero) || (c.lon12s ≽ E.f ⊗ half_turn))

abbrev pub equator_arc : Ellipsoid → Difference → Float
equator_arc E d = d.lam12 ⊘ E.f1

abbrev pub due_east : Azimuth
due_east = record { salp = one; calp = zero }

-- the cosine where the scales are wanted
abbrev pub scale_if : Funcs → Float → ℕ → Float
scale_if F angle mask = wanted_or_nan mask geodesic_scale (F.cos_of angle)

unfoldable pub equator_path : Funcs → Ellipsoid → Canonical → Difference → ℕ → Path
equator_path F E c d mask =
    record {
      s12x = E.a ⊗ d.lam12;
      m12x = E.b ⊗ F.sin_of (equator_arc E d);
      a12 = c.lon12 ⊘ E.f1;
      M12 = scale_if F (equator_arc E d) mask;
      M21 = scale_if F (equator_arc E d) mask;
      alp1 = due_east;
      alp2 = due_east;
      way = Direct (equator_arc E d);
    }

-- ---- a short line: all figures are those of a sphere of the radius b dnm

unfoldable pub short_path : Funcs → Ellipsoid → Difference → Start → ℕ → Path
short_path F E d s mask =
    record {
      s12x = s.sig12 ⊗ E.b ⊗ s.dnm;
      m12x = square s.dnm ⊗ E.b ⊗ F.sin_of (s.sig12 ⊘ s.dnm);
      a12 = degrees s.sig12;
      M12 = scale_if F (s.sig12 ⊘ s.dnm) mask;
      M21 = scale_if F (s.sig12 ⊘ s.dnm) mask;
      alp1 = s.alp1;
      alp2 = s.alp2;
      way = Direct (d.lam12 ⊘ (E.f1 ⊗ s.dnm));
    }

-- ---- by Newton's method

-- the reduced length and the scales are reckoned together with the distance
unfoldable pub length_mask : ℕ → ℕ
length_mask mask = cond (wants mask differential) (bit_or mask distance) mask

unfoldable pub found_lengths : Ellipsoid → Ends → Found → ℕ → Lengths
found_lengths E e r mask = lengths E r.last.eps r.last.arc e (length_mask mask)

unfoldable pub found_path : Ellipsoid → Found → Lengths → Path
found_path E r l =
    record {
      s12x = l.s12b ⊗ E.b;
      m12x = l.m12b ⊗ E.b;
      a12 = degrees r.last.arc.sig12;
      M12 = l.M12;
      M21 = l.M21;
      alp1 = r.alp1;
      alp2 = r.last.alp2;
      way = Newton r.last.domg12 r.evaluations;
    }

unfoldable pub newton_path : Funcs → Ellipsoid → Ends → Difference → Start → ℕ → Path
newton_path F E e d s mask = found_path E (solved_azimuth F E e d s.alp1) (found_lengths E e (solved_azimuth F E e d s.alp1) mask)

-- ---- which of the four

-- from the start: a short line is solved by it
abbrev pub started_path : Funcs → Ellipsoid → Ends → Difference → Start → ℕ → Path
started_path F E e d s mask = cond (s.sig12 ≽ zero) (short_path F E d s mask) (newton_path F E e d s mask)

unfoldable pub other_path : Funcs → Ellipsoid → Canonical → Ends → Difference → ℕ → Path
other_path F E c e d mask = cond (on_equator E c e) (equator_path F E c d mask) (started_path F E e d (inverse_start F E e d) mask)

-- a way along the meridian, taken where it is the shortest one
abbrev pub meridian_or : Funcs → Ellipsoid → Canonical → Ends → Difference → ℕ → Arc → Lengths → Path
meridian_or F E c e d mask arc l = cond (shortest arc l) (meridian_path E d arc l) (other_path F E c e d mask)

unfoldable pub meridian_first : Funcs → Ellipsoid → Canonical → Ends → Difference → ℕ → Path
meridian_first F E c e d mask =
    meridian_or F E c e d mask (meridian_arc F e d) (meridian_lengths E (meridian_arc F e d) e mask)

unfoldable pub path_of : Funcs → Ellipsoid → Canonical → Ends → Difference → ℕ → Path
path_of F E c e d mask = cond (on_meridian c d) (meridian_first F E c e d mask) (other_path F E c e d mask)
