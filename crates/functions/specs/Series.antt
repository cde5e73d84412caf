-- The series set: the seven functions by their series, in rounded operations. Assumes nothing.
use Rattle.functions.specs.Sets.{Funcs}
use Rattle.functions.specs.Circle.{sine_of, cosine_of}
use Rattle.functions.specs.Arcs.{arc_tangent_of, angle_of, area_tangent_of}
use Rattle.functions.specs.Lengths.{hypotenuse_of}
use Rattle.functions.specs.CubeRoot.{cube_root_of}

abbrev pub series : Funcs
series = record {
  sin_of = sine_of;
  cos_of = cosine_of;
  atan2_of = angle_of;
  atan_of = arc_tangent_of;
  atanh_of = area_tangent_of;
  hypot_of = hypotenuse_of;
  cbrt_of = cube_root_of;
}
