-- The area law of a polygon, of its points alone: S is the rounded sum of the areas of its edges, A the surface's whole area. Assumes nothing.
use Rattle.std.specs.Prelude.{◌≡◌, Bool, true, false, List, Float}
use Rattle.std.specs.Float.{float_is_finite, binary64, nan}
use Rattle.exact.specs.Values.{value}
use Rattle.area.specs.declared.Winding.{Winding}
use Rattle.area.specs.Reduction.{is_odd}
use Rattle.area.specs.AreaLaw.{Reduced}
use Rattle.polygon.specs.declared.Point.{Point}
use Rattle.polygon.specs.Polygons.{Solve, area_sum_of, crossings_of}

-- Where S is finite, the area is finite, it is S (negated for CounterClockwise) plus A / 2 exactly when the crossings are odd, modulo A, within A * 2 ^ -52 and indeed
-- A * 2 ^ -53, and it lies in its range: signed above -A / 2 and up to A / 2, unsigned from 0 to A. Where S is not finite, the area is NaN.
pub record PolygonLaw (edge : Solve) (whole : Float) (winding : Winding) (sign : Bool) (points : List Point) (area : Float) : Type 0 where
  pub is_finite : float_is_finite (area_sum_of edge points) ≡ true → float_is_finite area ≡ true
  pub reduced : float_is_finite (area_sum_of edge points) ≡ true → Reduced winding sign (is_odd (crossings_of points)) (value binary64 whole) (value binary64 (area_sum_of edge points)) (value binary64 area)
  pub none : float_is_finite (area_sum_of edge points) ≡ false → area ≡ nan
