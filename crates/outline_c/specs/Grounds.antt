-- What an outline is drawn on, by the number of a surface and a scale: 0 the WGS84 ellipsoid over the series set, 1 a plate. Assumes nothing.
use Rattle.std.specs.Prelude.{◌≡◌, ◌<◌, ℕ, cond, Some, None, Option, Result, MatchResult, ◌==◌, Float}
use Rattle.functions.specs.Series.{series}
use Rattle.surface.specs.Plates.{plate_area, plate_edge, plate_refusal}
use Rattle.earth.specs.Wgs84.{wgs84}
use Rattle.ellipsoid.specs.Ellipsoids as Ellipsoids
use Rattle.geodesic.specs.Answers.{edge_of}
use Rattle.polygon.specs.Polygons.{Solve}
use Rattle.outline_c.specs.declared.grounds.SurfaceNumber.{SurfaceNumber}
use Rattle.outline_c.specs.declared.grounds.SurfaceNumber.TheVariants.{Wgs84, Plate}
use Rattle.outline_c.specs.declared.faults.Fault.{Fault}
use Rattle.outline_c.specs.declared.faults.Fault.TheVariants.{Unknown}
use Rattle.outline_c.specs.Faults.{fault_of}

-- ---- the numbers of the surfaces

abbrev pub number_of : SurfaceNumber → ℕ
number_of Wgs84 = 0
number_of Plate = 1

abbrev pub Numbers : ℕ → Result SurfaceNumber Fault → Type 0
Numbers number r = MatchResult r (λ surface. number_of surface ≡ number) (λ e. (e ≡ Unknown) × (1 < number))

-- ---- by number and scale

abbrev pub edges_of : ℕ → Float → Solve
edges_of surface scale = cond (surface == 0) (edge_of series wgs84) (plate_edge scale)

abbrev pub whole_of : ℕ → Float → Float
whole_of surface scale = cond (surface == 0) (Ellipsoids.whole_of wgs84) (plate_area scale)

-- why there is no such ground, if there is none; the ellipsoid is not refused
abbrev pub ground_fault : ℕ → Float → Option Fault
ground_fault surface scale =
    cond (surface == 0) None (cond (surface == 1) (fault_of (plate_refusal scale)) (Some Unknown))
