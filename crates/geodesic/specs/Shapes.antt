-- Which ellipsoids are accepted, and why one is refused. Assumes nothing.
use Rattle.std.specs.Prelude.{Bool, cond, ◌&&◌, Some, None, Option, Float}
use Rattle.std.specs.Float.Ieee.{neg}
use Rattle.functions.specs.Sets.{Funcs}
use Rattle.floats.specs.Arithmetic.{◌≼◌, ◌≽◌, bits}
use Rattle.geomath.specs.Angles.{one}
use Rattle.surface.specs.Wholes.{whole_fits}
use Rattle.surface.specs.declared.refusals.Refusal.{Refusal}
use Rattle.surface.specs.declared.refusals.Refusal.TheVariants.{Shape, WholeArea}
use Rattle.ellipsoid.specs.Ellipsoids.{ellipsoid, whole_of}

-- 10 ^ 9, and 0.02
abbrev pub largest_radius : Float
largest_radius = bits 0x41cdcd6500000000

abbrev pub largest_flattening : Float
largest_flattening = bits 0x3f947ae147ae147b

-- a from 1 to 10 ^ 9 and f from -0.02 to 0.02; NaN is in no range
abbrev pub accepts_shape : Float → Float → Bool
accepts_shape a f = (a ≽ one) && (a ≼ largest_radius) && (f ≽ neg largest_flattening) && (f ≼ largest_flattening)

-- why an ellipsoid is refused, if it is: its shape is not accepted, or its whole area does not fit
unfoldable pub shape_refusal : Funcs → Float → Float → Option Refusal
shape_refusal F a f = cond (accepts_shape a f) (cond (whole_fits (whole_of (ellipsoid F a f))) None (Some WholeArea)) (Some Shape)
