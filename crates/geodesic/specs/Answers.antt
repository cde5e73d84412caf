-- What the public calls answer: the inverse problem between two accepted points, and the edges of the ellipsoid as a surface. Assumes nothing.
use Rattle.std.specs.Prelude.{Bool, cond, ◌&&◌, Ok, Err, Result, Float}
use Rattle.functions.specs.Sets.{Funcs}
use Rattle.geomath.specs.Angles.{accepts}
use Rattle.surface.specs.declared.Edge.{Edge}
use Rattle.surface.specs.declared.refusals.Refusal.{Refusal}
use Rattle.surface.specs.declared.refusals.Refusal.TheVariants.{Point}
use Rattle.ellipsoid.specs.Capabilities.{polygon_area}
use Rattle.ellipsoid.specs.declared.shape.Ellipsoid.{Ellipsoid}
use Rattle.inverse.specs.Inverse.{inverse, edge_from}

abbrev pub accepts_both : Float → Float → Float → Float → Bool
accepts_both lat1 lon1 lat2 lon2 = accepts lat1 lon1 && accepts lat2 lon2

abbrev pub answered : {A : Type 0} → Float → Float → Float → Float → A → Result A Refusal
answered lat1 lon1 lat2 lon2 r = cond (accepts_both lat1 lon1 lat2 lon2) (Ok r) (Err Point)

-- ---- as a surface: the length, the area and the evaluations of an edge

unfoldable pub edge_of : Funcs → Ellipsoid → Float → Float → Float → Float → Edge
edge_of F E lat1 lon1 lat2 lon2 = edge_from (inverse F E polygon_area lat1 lon1 lat2 lon2)
