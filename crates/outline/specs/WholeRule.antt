-- The whole rule of an outline, in three laws: its history leaves no trace, its area is exact but for one rounding, and lengths have no handedness. Assumes nothing.
use Rattle.std.specs.Prelude.{◌≡◌, Bool, true, T, List, Float}
use Rattle.std.specs.Float.{binary64}
use Rattle.std.specs.Float.Ieee.{fits}
use Rattle.surface.specs.Wholes.{whole_fits}
use Rattle.area.specs.declared.Winding.{Winding}
use Rattle.polygon.specs.declared.Point.{Point}
use Rattle.polygon.specs.Polygons.{Solve, figures_of}
use Rattle.polygon.specs.Laws.{PolygonLaw}
use Rattle.history.specs.Histories.{HistoryLaw}
use Rattle.inverse.specs.MirrorLaw.{MirrorLaw}

-- The area of every measure: a measure's figures are those of the polygon with the standing points, so this is the area law of any such figures, on any surface whose
-- whole area is finite and at least 2 ^ -1021.
abbrev pub MeasuredArea : Type 0
MeasuredArea =
    (edge : Solve) (whole : Float) (winding : Winding) (sign : Bool) (points : List Point)
    → T (fits binary64 whole) → whole_fits whole ≡ true
    → PolygonLaw edge whole winding sign points (figures_of edge whole winding sign points).area

pub record WholeRule : Type 0 where
  -- over any run of calls with storage untouched, a call is refused exactly when the book refuses it, with the same refusal, and a measure is that of a new PolygonArea
  pub history : HistoryLaw
  -- the area is the sum of the edges' areas, negated for CounterClockwise, plus half of the surface exactly when crossings are odd, modulo the surface
  pub area : MeasuredArea
  -- exchanging two points or mirroring both leaves the lengths of the inverse the same bits
  pub mirror : MirrorLaw
