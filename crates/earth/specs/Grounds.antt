-- What an outline is drawn on: the WGS84 ellipsoid over the series set, or a plate. Assumes nothing.
use Rattle.std.specs.Prelude.{Float}
use Rattle.functions.specs.Series.{series}
use Rattle.surface.specs.declared.Edge.{Edge}
use Rattle.surface.specs.Plates.{plate_area, plate_edge}
use Rattle.ellipsoid.specs.Ellipsoids.{whole_of}
use Rattle.geodesic.specs.Answers.{edge_of}
use Rattle.earth.specs.declared.grounds.Ground.{Ground}
use Rattle.earth.specs.declared.grounds.Ground.TheVariants.{Earth, Sheet}
use Rattle.earth.specs.Wgs84.{wgs84}

abbrev pub edges_on : Ground → Float → Float → Float → Float → Edge
edges_on Earth = edge_of series wgs84
edges_on (Sheet p) = plate_edge p.scale

abbrev pub whole_on : Ground → Float
whole_on Earth = whole_of wgs84
whole_on (Sheet p) = plate_area p.scale
