-- Azimuths, and arcs on the auxiliary sphere: the arc length σ12 from the sines and cosines of the arcs σ1 and σ2 to the two ends, counted from the node where the geodesic crosses the equator. Assumes nothing.
use Rattle.std.specs.Prelude.{true, List, Float}
use Rattle.functions.specs.Sets.{Funcs}
use Rattle.floats.specs.Arithmetic.{◌⊕◌, ◌⊖◌, ◌⊗◌}
use Rattle.floats.specs.Choices.{larger_of}
use Rattle.geomath.specs.Angles.{zero}
use Rattle.series.specs.Vectors.{norm_x, norm_y}
use Rattle.series.specs.Clenshaw.{sin_cos_series}
use Rattle.ellipsoid.specs.declared.arcs.Arc.{Arc}
use Rattle.ellipsoid.specs.declared.arcs.Azimuth.{Azimuth}

-- sine and cosine of an azimuth divided by their length
unfoldable pub unit : Funcs → Azimuth → Azimuth
unit F z = record { salp = norm_x F z.salp z.calp; calp = norm_y F z.salp z.calp }

-- the azimuth turned by an angle
unfoldable pub turned : Funcs → Azimuth → Float → Azimuth
turned F z angle =
    record {
      salp = z.salp ⊗ F.cos_of angle ⊕ z.calp ⊗ F.sin_of angle;
      calp = z.calp ⊗ F.cos_of angle ⊖ z.salp ⊗ F.sin_of angle;
    }

-- σ12 = σ2 - σ1, from 0 to π
unfoldable pub arc_of : Funcs → Float → Float → Float → Float → Arc
arc_of F ssig1 csig1 ssig2 csig2 =
    record {
      sig12 = F.atan2_of (larger_of (csig1 ⊗ ssig2 ⊖ ssig1 ⊗ csig2) zero) (csig1 ⊗ csig2 ⊕ ssig1 ⊗ ssig2);
      ssig1 = ssig1;
      csig1 = csig1;
      ssig2 = ssig2;
      csig2 = csig2;
    }

-- what the sum over l of c_l sin 2lσ gains along an arc
unfoldable pub wave : Arc → List Float → Float
wave arc c = sin_cos_series true arc.ssig2 arc.csig2 c ⊖ sin_cos_series true arc.ssig1 arc.csig1 c
