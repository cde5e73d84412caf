-- The WGS84 ellipsoid over the series set. Assumes nothing.
use Rattle.functions.specs.Series.{series}
use Rattle.ellipsoid.specs.declared.shape.Ellipsoid.{Ellipsoid}
use Rattle.ellipsoid.specs.Ellipsoids.{ellipsoid, wgs84_a, wgs84_f}

abbrev pub wgs84 : Ellipsoid
wgs84 = ellipsoid series wgs84_a wgs84_f
