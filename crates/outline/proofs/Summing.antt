-- The sums over a row, one station after the other; its first and its last point.
use Rattle.std.proofs.Common.{◌≡◌, ℕ, suc, ◌+◌, ◌-◌, ◌<◌, ◌≤◌, List, [], ◌∷◌, map, length, get_or, drop, Some, None, Option, refl, ap, ◌∙◌, arith}
use denote.Bor.{Bor}
use Rattle.std.specs.Option.{MatchOption, option_copied}
use Rattle.std.specs.List.{slice_get}
use Rattle.std.proofs.lemmas.List.{at_drop_more, at_drop_all}
use lib.Ieee.{Float}
use Rattle.geomath.specs.Angles.{zero}
use Rattle.polygon.specs.declared.Point.{Point}
use Rattle.polygon.specs.declared.Traverse.{Traverse}
use Rattle.polygon.specs.Polygons.{origin, added_to, counted_to, first_of, last_after, last_of}
use Rattle.stations.specs.declared.Station.{Station}
use Rattle.stations.specs.Stations.{blank, point_of}
use Rattle.outline.specs.Sums.{plus}

-- the traverse t with the sums of a row
abbrev pub on_from : Traverse → List Station → Traverse
on_from t row =
    record {
      num = t.num;
      areasum = added_to t.areasum (map (λ (s : Station). s.S12) row);
      perimetersum = added_to t.perimetersum (map (λ (s : Station). s.s12) row);
      crossings = counted_to t.crossings (map (λ (s : Station). s.crossing) row);
      initial = t.initial;
      latest = t.latest;
    }

pub on_none : (t : Traverse) → on_from t [] ≡ t
unfolding added_to counted_to
on_none t = refl

on_one : (t : Traverse) (s : Station) (row : List Station) → on_from t (s ∷ row) ≡ on_from (plus t s) row
unfolding added_to counted_to
on_one t s row = refl

pub on_more : (t : Traverse) (row : List Station) (i : ℕ) → i < length row → on_from t (drop i row) ≡ on_from (plus t (get_or row i blank)) (drop (i + 1) row)
on_more t row i h = at_drop_more (on_from t) row i blank h ∙ on_one t (get_or row i blank) (drop (i + 1) row)

pub on_all : (t : Traverse) (row : List Station) (i : ℕ) → length row ≤ i → on_from t (drop i row) ≡ t
on_all t row i h = at_drop_all (on_from t) row i h ∙ on_none t

-- ---- first and last

-- the point of a station that stands, or (0, 0), as it is made
pub record PointOr (r : Option (Bor Station)) (d p : Point) : Type 0 where
  pub none : (d.lat ≡ zero) × (d.lon ≡ zero)
  pub point : MatchOption r (p ≡ d) (λ s. p ≡ point_of s.now)

at_origin : (d : Point) → d.lat ≡ zero → d.lon ≡ zero → d ≡ origin
at_origin d lat lon =
    let made : Float → Float → Point = λ a b. record { lat = a; lon = b } in
    ap (λ a. made a d.lon) lat ∙ ap (made zero) lon

pub first_lem : (row : List Station) (r : Option (Bor Station)) (d p : Point) → option_copied r ≡ slice_get row 0 → PointOr r d p → p ≡ first_of (map point_of row)
unfolding first_of
first_lem [] None d p is made = made.point ∙ at_origin d made.none.0 made.none.1
first_lem [] (Some s) d p is made = absurd (cc)
first_lem (s ∷ row) None d p is made = absurd (cc)
first_lem (s ∷ row) (Some t) d p is made = let e : t.now ≡ s = cc in made.point ∙ ap point_of e

last_some : (p : Point) (s : Station) (row : List Station) (t : Station) → Some t ≡ slice_get (s ∷ row) (length row) → point_of t ≡ last_after p (map point_of (s ∷ row))
unfolding last_after
last_some p s [] t is = let e : t ≡ s = cc in ap point_of e
last_some p s (u ∷ row) t is = last_some (point_of s) u row t is

not_none : (s : Station) (row : List Station) → None ≡ slice_get (s ∷ row) (length row) → ⊥
not_none s [] is = cc
not_none s (u ∷ row) is = not_none u row is

pub last_lem : (row : List Station) (r : Option (Bor Station)) (d p : Point) → option_copied r ≡ slice_get row (length row - 1) → PointOr r d p → p ≡ last_of (map point_of row)
unfolding last_after
last_lem [] None d p is made = made.point ∙ at_origin d made.none.0 made.none.1
last_lem [] (Some s) d p is made = absurd (cc)
last_lem (s ∷ row) r d p is made =
    let e : suc (length row) - 1 ≡ length row = omega arith in
    at_last r (is ∙ ap (slice_get (s ∷ row)) e) made.point
  where
    at_last : (r : Option (Bor Station)) → option_copied r ≡ slice_get (s ∷ row) (length row) → MatchOption r (p ≡ d) (λ t. p ≡ point_of t.now) → p ≡ last_after origin (map point_of (s ∷ row))
    at_last None is point = absurd (not_none s row is)
    at_last (Some t) is point = point ∙ last_some origin s row t.now is
