-- The surfaces on which a sheet can be drawn: WGS84 over the series set, and the plate whose degrees are 1 long. Assumes nothing.
use Rattle.std.specs.Prelude.{◌≡◌, None, Option, Float}
use Rattle.geomath.specs.Angles.{one}
use Rattle.functions.specs.Series.{series}
use Rattle.surface.specs.declared.refusals.Refusal.{Refusal}
use Rattle.surface.specs.Plates.{plate_edge, plate_area, plate_refusal}
use Rattle.ellipsoid.specs.Ellipsoids.{ellipsoid, whole_of, wgs84_a, wgs84_f}
use Rattle.polygon.specs.Polygons.{Solve}
use Rattle.geodesic.specs.Answers.{edge_of}
use Rattle.geodesic.specs.Shapes.{shape_refusal}
use Rattle.packed.specs.declared.sheets.SurfaceKind.{SurfaceKind}
use Rattle.packed.specs.declared.sheets.SurfaceKind.TheVariants.{Wgs84, Plate}

unfoldable pub edges_on : SurfaceKind → Solve
edges_on Wgs84 = edge_of series (ellipsoid series wgs84_a wgs84_f)
edges_on Plate = plate_edge one

unfoldable pub whole_on : SurfaceKind → Float
whole_on Wgs84 = whole_of (ellipsoid series wgs84_a wgs84_f)
whole_on Plate = plate_area one

-- why a surface is refused, if it is
unfoldable pub surface_refusal : SurfaceKind → Option Refusal
surface_refusal Wgs84 = shape_refusal series wgs84_a wgs84_f
surface_refusal Plate = plate_refusal one

-- neither surface is refused
pub record Stand : Type 0 where
  pub ellipsoid_stands : surface_refusal Wgs84 ≡ None
  pub plate_stands : surface_refusal Plate ≡ None
