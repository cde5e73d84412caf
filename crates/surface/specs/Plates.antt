-- The plate carrée: degrees of longitude and latitude are its coordinates, k sheet units to a degree. Assumes nothing.
use Rattle.std.specs.Prelude.{cond, ◌&&◌, Some, None, Option, Float}
use Rattle.std.specs.Float.{sqrt, binary64}
use Rattle.floats.specs.Arithmetic.{◌⊕◌, ◌⊖◌, ◌⊗◌, ◌⊘◌, ◌≼◌, ◌≽◌, bits}
use Rattle.geomath.specs.Angles.{one, two, square, ang_diff}
use Rattle.surface.specs.declared.Edge.{Edge}
use Rattle.surface.specs.declared.refusals.Refusal.{Refusal}
use Rattle.surface.specs.declared.refusals.Refusal.TheVariants.{Shape, WholeArea}
use Rattle.surface.specs.Wholes.{whole_fits}

-- 10 ^ 6, the largest scale
abbrev pub largest_scale : Float
largest_scale = bits 0x412e848000000000

-- 360 times 180 square degrees
abbrev pub square_degrees : Float
square_degrees = bits 0x40efa40000000000

-- the area of the whole plate
abbrev pub plate_area : Float → Float
plate_area k = square k ⊗ square_degrees

-- the length of the straight line between two points, d degrees apart in longitude and h in latitude
abbrev pub plate_length : Float → Float → Float → Float
plate_length k d h = k ⊗ sqrt binary64 (square d ⊕ square h)

-- the area between that line and the equator: its width times its mean latitude
abbrev pub plate_strip : Float → Float → Float → Float → Float
plate_strip k d lat1 lat2 = square k ⊗ (d ⊗ ((lat1 ⊕ lat2) ⊘ two))

-- the edge from (lat1, lon1) to (lat2, lon2), the shorter way round
unfoldable pub plate_edge : Float → Float → Float → Float → Float → Edge
plate_edge k lat1 lon1 lat2 lon2 =
    record {
      s12 = plate_length k (ang_diff lon1 lon2) (lat2 ⊖ lat1);
      S12 = plate_strip k (ang_diff lon1 lon2) lat1 lat2;
      evaluations = 0;
    }

-- why a plate of scale k is refused, if it is: k is not from 1 to 10 ^ 6, or its whole area does not fit
abbrev pub plate_refusal : Float → Option Refusal
plate_refusal k = cond ((k ≽ one) && (k ≼ largest_scale)) (cond (whole_fits (plate_area k)) None (Some WholeArea)) (Some Shape)
