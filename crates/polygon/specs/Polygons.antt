-- The perimeter and the area of a polygon, of a list of points alone: no program is spoken of here. Assumes nothing.
use Rattle.std.specs.Prelude.{Bool, List, [], ◌∷◌, ◌++◌, map, length, ℤ, pos, ◌+ℤ◌, Float}
use Rattle.floats.specs.Arithmetic.{◌⊕◌}
use Rattle.geomath.specs.Angles.{zero}
use Rattle.surface.specs.declared.Edge.{Edge}
use Rattle.area.specs.declared.Winding.{Winding}
use Rattle.area.specs.Reduction.{is_odd, reduced_area}
use Rattle.polygon.specs.declared.Point.{Point}
use Rattle.polygon.specs.declared.Figures.{Figures}
use Rattle.polygon.specs.Transits.{transit_of}

-- ---- the edges

-- the ends of an edge
pub record Ends : Type 0 where
  pub from : Point
  pub to : Point

-- from p to the first of the points, and from each of them to the next
unfoldable pub edges_from : Point → List Point → List Ends
edges_from p [] = []
edges_from p (q ∷ qs) = record { from = p; to = q } ∷ edges_from q qs

-- from each point to the next
unfoldable pub open_edges : List Point → List Ends
open_edges [] = []
open_edges (p ∷ ps) = edges_from p ps

-- where there are no points, both ends of the closing edge are (0, 0)
abbrev pub origin : Point
origin = record { lat = zero; lon = zero }

unfoldable pub first_of : List Point → Point
first_of [] = origin
first_of (p ∷ ps) = p

unfoldable pub last_after : Point → List Point → Point
last_after p [] = p
last_after p (q ∷ qs) = last_after q qs

abbrev pub last_of : List Point → Point
last_of ps = last_after origin ps

-- from the last point back to the first
abbrev pub closing_edge : List Point → Ends
closing_edge ps = record { from = last_of ps; to = first_of ps }

abbrev pub edges_of : List Point → List Ends
edges_of ps = open_edges ps ++ (closing_edge ps ∷ [])

-- ---- sums over the edges

-- how a surface answers an edge
abbrev pub Solve : Type 0
Solve = Float → Float → Float → Float → Edge

abbrev pub solved : Solve → Ends → Edge
solved edge e = edge e.from.lat e.from.lon e.to.lat e.to.lon

-- x and each of the numbers, added in their order and rounded each time
unfoldable pub added_to : Float → List Float → Float
added_to x [] = x
added_to x (y ∷ ys) = added_to (x ⊕ y) ys

unfoldable pub counted_to : ℤ → List ℤ → ℤ
counted_to n [] = n
counted_to n (k ∷ ks) = counted_to (n +ℤ k) ks

abbrev pub lengths : Solve → List Ends → List Float
lengths edge = map (λ e. (solved edge e).s12)

abbrev pub strips : Solve → List Ends → List Float
strips edge = map (λ e. (solved edge e).S12)

abbrev pub transits : List Ends → List ℤ
transits = map (λ e. transit_of e.from.lon e.to.lon)

-- ---- the figures

abbrev pub perimeter_of : Solve → List Point → Float
perimeter_of edge ps = added_to zero (lengths edge (edges_of ps))

abbrev pub area_sum_of : Solve → List Point → Float
area_sum_of edge ps = added_to zero (strips edge (edges_of ps))

abbrev pub crossings_of : List Point → ℤ
crossings_of ps = counted_to (pos 0) (transits (edges_of ps))

abbrev pub area_of : Solve → Float → Winding → Bool → List Point → Float
area_of edge whole winding sign ps = reduced_area whole winding sign (is_odd (crossings_of ps)) (area_sum_of edge ps)

-- the figures of the polygon with these points, on a surface with these edges and this whole area
unfoldable pub figures_of : Solve → Float → Winding → Bool → List Point → Figures
figures_of edge whole winding sign ps =
    record { perimeter = perimeter_of edge ps; area = area_of edge whole winding sign ps; count = length ps }
