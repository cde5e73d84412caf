-- The sums over stations drawn from points are those that a PolygonArea holds of these points; the zero edge of the first station adds nothing.
use Rattle.std.proofs.Common.{◌≡◌, ℕ, ◌+◌, ◌<◌, Bool, true, List, [], ◌∷◌, map, length, ℤ, pos, Some, None, sym, refl, ap, ◌∙◌, ⊎_elim, arith}
use lib.Ieee.{Float}
use Rattle.std.specs.List.{AllByRecursion as All}
use Rattle.std.proofs.lemmas.Bool.{ne_eqb, cases_lt}
use Rattle.floats.specs.Arithmetic.{◌⊕◌}
use Rattle.geomath.specs.Angles.{zero, accepts}
use Rattle.area.specs.declared.Winding.{Winding}
use Rattle.polygon.specs.declared.Point.{Point}
use Rattle.polygon.specs.declared.Traverse.{Traverse}
use Rattle.polygon.specs.Transits.{transit_of}
use Rattle.polygon.specs.Polygons.{Solve, edges_from, open_edges, first_of, last_of, added_to, counted_to, lengths, strips, transits, figures_of}
use Rattle.polygon.specs.Traverses.{begun, fed, fed_all, offered, most_points, closed}
use Rattle.polygon.proofs.Closing.{fed_all_holds, closed-fed_all}
use Rattle.polygon.proofs.Feeding.{fed_first, fed_later}
use Rattle.stations.specs.declared.Station.{Station}
use Rattle.stations.specs.Stations.{point_of}
use Rattle.history.specs.Calls.{traverse_of, measured}
use Rattle.history.specs.Histories.{given, computed}
use Rattle.history.proofs.Drawn.{drawn_from, points_drawn, length-drawn}

-- ---- the sums

zero-zero : zero ⊕ zero ≡ zero
unfolding lib.Ieee.add lib.Ieee.of_bits
zero-zero = refl

module _ (edge : Solve) where
  lengths-drawn : (p : Point) (ps : List Point) → map (λ (s : Station). s.s12) (drawn_from edge (Some p) ps) ≡ lengths edge (edges_from p ps)
  unfolding edges_from
  lengths-drawn p [] = refl
  lengths-drawn p (q ∷ ps) = ap (λ l. (edge p.lat p.lon q.lat q.lon).s12 ∷ l) (lengths-drawn q ps)

  strips-drawn : (p : Point) (ps : List Point) → map (λ (s : Station). s.S12) (drawn_from edge (Some p) ps) ≡ strips edge (edges_from p ps)
  unfolding edges_from
  strips-drawn p [] = refl
  strips-drawn p (q ∷ ps) = ap (λ l. (edge p.lat p.lon q.lat q.lon).S12 ∷ l) (strips-drawn q ps)

  transits-drawn : (p : Point) (ps : List Point) → map (λ (s : Station). s.crossing) (drawn_from edge (Some p) ps) ≡ transits (edges_from p ps)
  unfolding edges_from
  transits-drawn p [] = refl
  transits-drawn p (q ∷ ps) = ap (λ l. transit_of p.lon q.lon ∷ l) (transits-drawn q ps)

  -- from 0.0 and 0, the first station's edge included
  perimeter_drawn : (ps : List Point) → added_to zero (map (λ (s : Station). s.s12) (drawn_from edge None ps)) ≡ added_to zero (lengths edge (open_edges ps))
  unfolding added_to open_edges
  perimeter_drawn [] = refl
  perimeter_drawn (p ∷ ps) = ap (λ x. added_to x (map (λ (s : Station). s.s12) (drawn_from edge (Some p) ps))) zero-zero ∙ ap (added_to zero) (lengths-drawn p ps)

  areas_drawn : (ps : List Point) → added_to zero (map (λ (s : Station). s.S12) (drawn_from edge None ps)) ≡ added_to zero (strips edge (open_edges ps))
  unfolding added_to open_edges
  areas_drawn [] = refl
  areas_drawn (p ∷ ps) = ap (λ x. added_to x (map (λ (s : Station). s.S12) (drawn_from edge (Some p) ps))) zero-zero ∙ ap (added_to zero) (strips-drawn p ps)

  crossings_drawn : (ps : List Point) → counted_to (pos 0) (map (λ (s : Station). s.crossing) (drawn_from edge None ps)) ≡ counted_to (pos 0) (transits (open_edges ps))
  unfolding counted_to open_edges
  crossings_drawn [] = refl
  crossings_drawn (p ∷ ps) = ap (counted_to (pos 0)) (transits-drawn p ps)

  pub traverse_drawn : (ps : List Point) → traverse_of (drawn_from edge None ps) ≡ fed_all edge begun ps
  traverse_drawn ps =
      let row = drawn_from edge None ps in
      let made : ℕ → Float → Float → ℤ → List Point → Traverse =
      λ n a l c points. record { num = n; areasum = a; perimetersum = l; crossings = c; initial = first_of points; latest = last_of points } in
      let areas = added_to zero (map (λ (s : Station). s.S12) row) in
      let perimeter = added_to zero (map (λ (s : Station). s.s12) row) in
      let crossings = counted_to (pos 0) (map (λ (s : Station). s.crossing) row) in
      ap (λ n. made n areas perimeter crossings (map point_of row)) (length-drawn edge None ps)
      ∙ ap (λ a. made (length ps) a perimeter crossings (map point_of row)) (areas_drawn ps)
      ∙ ap (λ l. made (length ps) (added_to zero (strips edge (open_edges ps))) l crossings (map point_of row)) (perimeter_drawn ps)
      ∙ ap (λ c. made (length ps) (added_to zero (strips edge (open_edges ps))) (added_to zero (lengths edge (open_edges ps))) c (map point_of row)) (crossings_drawn ps)
      ∙ ap (made (length ps) (added_to zero (strips edge (open_edges ps))) (added_to zero (lengths edge (open_edges ps))) (counted_to (pos 0) (transits (open_edges ps)))) (points_drawn edge None ps)
      ∙ sym (fed_all_holds edge ps)

-- ---- points that a PolygonArea accepts

abbrev pub Accepted : List Point → Type 0
Accepted ps = All (λ (p : Point). accepts p.lat p.lon ≡ true) ps

module _ (edge : Solve) where
  fed_num : (t : Traverse) (p : Point) → (fed edge t p).num ≡ t.num + 1
  fed_num t p =
      ⊎_elim
      (λ some. ap (λ (u : Traverse). u.num) (fed_later edge t p some))
      (λ none. ap (λ (u : Traverse). u.num) (fed_first edge t p (omega arith)))
      (cases_lt 0 t.num)

  offered_accepted : (t : Traverse) (p : Point) → accepts p.lat p.lon ≡ true → t.num < most_points → offered edge t p.lat p.lon ≡ fed edge t p
  offered_accepted t p on few = let ne : t.num ≡ most_points → ⊥ = λ e. omega arith in rw (on, ne_eqb t.num most_points ne)

  given-fed : (t : Traverse) (ps : List Point) → Accepted ps → t.num + length ps < most_points → given edge t ps ≡ fed_all edge t ps
  unfolding given fed_all
  given-fed t [] on few = refl
  given-fed t (p ∷ ps) on few =
      ap (λ u. given edge u ps) (offered_accepted t p on.0 (omega arith)) ∙ given-fed (fed edge t p) ps on.1 (omega (arith, fed_num t p))

  module _ (whole : Float) (winding : Winding) (sign : Bool) (ps : List Point) where
    pub measured-figures : (measured edge whole winding sign (drawn_from edge None ps)).figures ≡ figures_of edge whole winding sign ps
    measured-figures = ap (closed edge whole winding sign) (traverse_drawn edge ps) ∙ closed-fed_all edge whole winding sign ps

    pub measured-computed : Accepted ps → length ps < most_points → (measured edge whole winding sign (drawn_from edge None ps)).figures ≡ computed edge whole winding sign ps
    measured-computed on few = ap (closed edge whole winding sign) (traverse_drawn edge ps ∙ sym (given-fed begun ps on (omega arith)))
