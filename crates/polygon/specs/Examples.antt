-- Worked examples of the definitions: angles, accepted points, crossings of the prime meridian, reduced areas, and a square on the plate. Assumes nothing.
use Rattle.std.specs.Prelude.{◌≡◌, ℕ, Bool, true, false, List, [], ◌∷◌, pos, neg_ℤ, Some, None, Float}
use Rattle.std.specs.Float.{binary64}
use Rattle.std.specs.Float.Ieee.{neg, of_int}
use Rattle.floats.specs.Arithmetic.{bits}
use Rattle.geomath.specs.Angles.{ang_normalize, ang_round, ang_diff, ang_diff_error}
use Rattle.surface.specs.declared.refusals.Refusal.TheVariants.{Point as PointOff}
use Rattle.surface.specs.Refusals.{number_of}
use Rattle.surface.specs.Plates.{plate_edge, plate_area}
use Rattle.area.specs.declared.Winding.TheVariants.{CounterClockwise}
use Rattle.area.specs.Examples.{ReducedExamples}
use Rattle.polygon.specs.declared.Point.{Point}
use Rattle.polygon.specs.declared.Figures.{Figures}
use Rattle.polygon.specs.Transits.{transit_of}
use Rattle.polygon.specs.Polygons.{figures_of}
use Rattle.polygon.specs.Traverses.{point_refusal}

-- whole numbers as floats, above and below zero
abbrev pub plus : ℕ → Float
plus n = of_int binary64 (pos n)

abbrev pub minus : ℕ → Float
minus n = neg (plus n)

pub record AngleExamples : Type 0 where
  pub normalize_west : ang_normalize (minus 180) ≡ plus 180
  pub normalize_far : ang_normalize (plus 540) ≡ plus 180
  pub normalize_over : ang_normalize (plus 181) ≡ minus 179
  pub round_zero : ang_round (minus 0) ≡ plus 0
  -- -2 ^ -60
  pub round_tiny : ang_round (bits 0xbc30000000000000) ≡ minus 0
  pub diff : ang_diff (minus 179) (plus 179) ≡ minus 2
  pub diff_error : ang_diff_error (minus 179) (plus 179) ≡ minus 0

-- the north pole is accepted, and the next double above 90 is refused
pub record PointExamples : Type 0 where
  pub pole : point_refusal 0 (plus 90) (plus 0) ≡ None
  pub beyond : point_refusal 0 (bits 0x4056800000000001) (plus 0) ≡ Some PointOff
  pub beyond_number : number_of PointOff ≡ 3

pub record TransitExamples : Type 0 where
  pub date_line : transit_of (plus 179) (minus 179) ≡ pos 0
  pub eastward : transit_of (minus 1) (plus 0) ≡ pos 1
  pub westward : transit_of (plus 0) (minus 1) ≡ neg_ℤ (pos 1)
  pub half_way : transit_of (plus 180) (plus 0) ≡ pos 1

-- (0, 0), (10, 0), (10, 10), (0, 10)
abbrev pub square : List Point
square =
    record { lat = plus 0; lon = plus 0 }
    ∷ record { lat = plus 10; lon = plus 0 }
    ∷ record { lat = plus 10; lon = plus 10 }
    ∷ record { lat = plus 0; lon = plus 10 }
    ∷ []

-- on the plate with scale 1, counterclockwise
abbrev pub on_plate : Bool → Figures
on_plate sign = figures_of (plate_edge (plus 1)) (plate_area (plus 1)) CounterClockwise sign square

pub record PlateExamples : Type 0 where
  pub signed : on_plate true ≡ record { perimeter = plus 40; area = minus 100; count = 4 }
  pub unsigned : on_plate false ≡ record { perimeter = plus 40; area = plus 64700; count = 4 }

pub record Examples : Type 0 where
  pub angles : AngleExamples
  pub points : PointExamples
  pub transits : TransitExamples
  pub areas : ReducedExamples
  pub plate : PlateExamples
