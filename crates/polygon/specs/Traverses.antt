-- What a PolygonArea keeps of the points given so far, and how a point changes it. Assumes nothing.
use Rattle.std.specs.Prelude.{ℕ, ◌+◌, Bool, cond, List, [], ◌∷◌, pos, ◌+ℤ◌, Some, None, Option, ◌==◌, Float}
use Rattle.floats.specs.Arithmetic.{◌⊕◌}
use Rattle.geomath.specs.Angles.{zero, accepts}
use Rattle.surface.specs.declared.Edge.{Edge}
use Rattle.surface.specs.declared.refusals.Refusal.{Refusal}
use Rattle.surface.specs.declared.refusals.Refusal.TheVariants.{Full, Point as PointOff}
use Rattle.area.specs.declared.Winding.{Winding}
use Rattle.area.specs.Reduction.{is_odd, reduced_area}
use Rattle.polygon.specs.declared.Point.{Point}
use Rattle.polygon.specs.declared.Figures.{Figures}
use Rattle.polygon.specs.declared.Traverse.{Traverse}
use Rattle.polygon.specs.Transits.{transit_of}
use Rattle.polygon.specs.Polygons.{Solve, solved, origin}

-- before the first point
abbrev pub begun : Traverse
begun = record { num = 0; areasum = zero; perimetersum = zero; crossings = pos 0; initial = origin; latest = origin }

-- the first point
abbrev pub started : Traverse → Point → Traverse
started t p =
    record {
      num = t.num + 1;
      areasum = t.areasum;
      perimetersum = t.perimetersum;
      crossings = t.crossings;
      initial = p;
      latest = p;
    }

-- a later point, at the end of an edge e from the latest one
abbrev pub extended : Solve → Traverse → Point → Traverse
extended edge t p =
    record {
      num = t.num + 1;
      areasum = t.areasum ⊕ (solved edge (record { from = t.latest; to = p })).S12;
      perimetersum = t.perimetersum ⊕ (solved edge (record { from = t.latest; to = p })).s12;
      crossings = t.crossings +ℤ transit_of t.latest.lon p.lon;
      initial = t.initial;
      latest = p;
    }

-- one more point
unfoldable pub fed : Solve → Traverse → Point → Traverse
fed edge t p = cond (t.num == 0) (started t p) (extended edge t p)

-- these points, in order
unfoldable pub fed_all : Solve → Traverse → List Point → Traverse
fed_all edge t [] = t
fed_all edge t (p ∷ ps) = fed_all edge (fed edge t p) ps

-- ---- one call

-- 2 ^ 32 - 1, the most points that are counted
abbrev pub most_points : ℕ
most_points = 4294967295

-- why a point is refused, if it is: it is off the surface, or there are as many points as can be counted
abbrev pub point_refusal : ℕ → Float → Float → Option Refusal
point_refusal num lat lon = cond (accepts lat lon) (cond (num == most_points) (Some Full) None) (Some PointOff)

abbrev pub unless : Option Refusal → Traverse → Traverse → Traverse
unless None t u = u
unless (Some e) t u = t

-- the traverse after a point is offered: with it, or as it was where it is refused
abbrev pub offered : Solve → Traverse → Float → Float → Traverse
offered edge t lat lon = unless (point_refusal t.num lat lon) t (fed edge t (record { lat = lat; lon = lon }))

-- the edge from the latest point to the first
abbrev pub closing : Solve → Traverse → Edge
closing edge t = solved edge (record { from = t.latest; to = t.initial })

-- the figures once the closing edge is added
abbrev pub closed : Solve → Float → Winding → Bool → Traverse → Figures
closed edge whole winding sign t =
    let e = closing edge t in
    let crossings = t.crossings +ℤ transit_of t.latest.lon t.initial.lon in
    record {
      perimeter = t.perimetersum ⊕ e.s12;
      area = reduced_area whole winding sign (is_odd crossings) (t.areasum ⊕ e.S12);
      count = t.num;
    }
