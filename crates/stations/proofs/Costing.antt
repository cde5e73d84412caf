-- Drawing a station anew solves one edge if there is a station before it: so a placed or moved point costs one edge for each neighbour.
use Rattle.std.proofs.Common.{◌≡◌, ℕ, ◌+◌, ◌-◌, ◌<◌, ◌≤◌, Bool, true, false, cond, ◌&&◌, ltb, List, length, set, refl, ap, ◌∙◌, inl, ⊎_elim, arith}
use Rattle.std.proofs.Math.Nat.{min-eq_left}
use Rattle.std.proofs.lemmas.List.{length-set}
use Rattle.std.proofs.lemmas.Bool.{lt-ltb, le-ltb, eq-eqb, ne_eqb, cases_lt, and_right}
use Rattle.rows.specs.Rows.{put_in, take_out}
use Rattle.rows.proofs.Changes.{length_put_in, length_take_out}
use Rattle.polygon.specs.declared.Point.{Point}
use Rattle.polygon.specs.Polygons.{Solve}
use Rattle.stations.specs.declared.Station.{Station}
use Rattle.stations.specs.declared.Cost.{Cost}
use Rattle.stations.specs.Stations.{Drawing, capped, together, first_station, redrawn, redrawn_twice, placed, moved, dropped}
use Rattle.stations.specs.Costs.{neighbours, bridged, add_edges}
use Rattle.stations.proofs.Redrawing.{room, used, not_used, redrawn_not, redrawn_first, redrawn-next, placed_room, moved_used, dropped_used}

abbrev edges_of : Drawing → ℕ
edges_of d = d.cost.edges

module _ (edge : Solve) (row : List Station) (count place : ℕ) (held : count ≤ length row) where
  module _ (low : place < count) where
    edges_first : place ≤ 0 → edges_of (redrawn edge row count place) ≡ cond (ltb 0 place) 1 0
    edges_first none = ap edges_of (redrawn_first edge row count place (used row count place low held) (omega arith)) ∙ rw (le-ltb 0 place none)

    edges_next : 0 < place → edges_of (redrawn edge row count place) ≡ cond (ltb 0 place) 1 0
    edges_next some = ap edges_of (redrawn-next edge row count place (used row count place low held) some) ∙ rw (lt-ltb 0 place some)

    edges_here : edges_of (redrawn edge row count place) ≡ cond (ltb 0 place) 1 0
    edges_here = ⊎_elim edges_next edges_first (cases_lt 0 place)

    long_here : length (redrawn edge row count place).stations ≡ length row
    long_here =
        ⊎_elim
        (λ some. ap (λ (d : Drawing). length d.stations) (redrawn-next edge row count place (used row count place low held) some) ∙ length-set row place _)
        (λ none. ap (λ (d : Drawing). length d.stations) (redrawn_first edge row count place (used row count place low held) (omega arith)) ∙ length-set row place _)
        (cases_lt 0 place)

  edges_above : count ≤ place → edges_of (redrawn edge row count place) ≡ 0
  edges_above above = ap edges_of (redrawn_not edge row count place (not_used row count place (inl above)))

module _ (edge : Solve) (row : List Station) (count place : ℕ) (held : count ≤ length row) where
  edges_after : edges_of (redrawn edge row count (place + 1)) ≡ cond (ltb (place + 1) count) 1 0
  edges_after =
      ⊎_elim
      (λ low. edges_here edge row count (place + 1) held low ∙ rw (lt-ltb 0 (place + 1) (omega arith), lt-ltb (place + 1) count low))
      (λ above. edges_above edge row count (place + 1) held above ∙ rw (le-ltb (place + 1) count above))
      (cases_lt (place + 1) count)

pub twice_edges : (edge : Solve) (row : List Station) (count place : ℕ) → place < count → count ≤ length row → (redrawn_twice edge row count place).cost.edges ≡ neighbours count place
unfolding redrawn_twice
twice_edges edge row count place low held =
    let once = redrawn edge row count place in
    let long : length once.stations ≡ length row = long_here edge row count place held low in
    ap (λ n. n + edges_of (redrawn edge once.stations count (place + 1))) (edges_here edge row count place held low)
    ∙ ap (λ n. cond (ltb 0 place) 1 0 + n) (edges_after edge once.stations count place (omega (arith, long)))

module _ (edge : Solve) (row : List Station) (count place : ℕ) where
  pub placed_edges : (p : Point) → place ≤ count → count < length row → (placed edge row count place p).cost.edges ≡ neighbours (count + 1) place
  placed_edges p low free =
      let put = put_in row count place (first_station p) in
      let long : length put ≡ length row = length_put_in row count place (first_station p) in
      ap edges_of (placed_room edge row count place p (room row count place low free)) ∙ twice_edges edge put (count + 1) place (omega arith) (omega (arith, long))

  module _ (low : place < count) (held : count ≤ length row) where
    pub moved_edges : (p : Point) → (moved edge row count place p).cost.edges ≡ neighbours count place
    moved_edges p =
        let long : length (set row place (first_station p)) ≡ length row = length-set row place (first_station p) in
        ap edges_of (moved_used edge row count place (used row count place low held) p) ∙ twice_edges edge (set row place (first_station p)) count place low (omega (arith, long))

    -- the station after it is at the place now
    bridged_or_not : (out : List Station) → length out ≡ length row → edges_of (redrawn edge out (count - 1) place) ≡ bridged count place
    bridged_or_not out long =
        ⊎_elim
        (λ inner. edges_here edge out (count - 1) place (omega (arith, long)) (omega arith) ∙ rw (lt-ltb (place + 1) count inner) (both (ltb 0 place)))
        (λ last. edges_above edge out (count - 1) place (omega (arith, long)) (omega arith) ∙ rw (and_right (ltb 0 place) (ltb (place + 1) count) (le-ltb (place + 1) count last)))
        (cases_lt (place + 1) count)
      where
        both : (b : Bool) → ◌≡◌ {A = ℕ} (cond b 1 0) (cond (b && true) 1 0)
        both true = refl
        both false = refl

    pub dropped_edges : (dropped edge row count place).cost.edges ≡ bridged count place
    dropped_edges = ap edges_of (dropped_used edge row count place (used row count place low held)) ∙ bridged_or_not (take_out row count place) (length_take_out row count place)

-- a point after the last has one neighbour, if there is a point
pub last_neighbours : (count : ℕ) → neighbours (count + 1) count ≡ add_edges count
last_neighbours count =
    let none : ltb (count + 1) (count + 1) ≡ false = le-ltb (count + 1) (count + 1) (omega arith) in
    ⊎_elim
    (λ some. let ne : count ≡ 0 → ⊥ = λ e. omega arith in rw (none, lt-ltb 0 count some, ne_eqb count 0 ne))
    (λ empty. rw (none, le-ltb 0 count empty, eq-eqb count 0 (omega arith)))
    (cases_lt 0 count)

-- where 32 bits hold both counts, all of them
pub capped_is : (a b : Cost) → a.edges + b.edges ≤ 4294967295 → a.evaluations + b.evaluations ≤ 4294967295 → capped a b ≡ together a b
capped_is a b edges evaluations = rw (min-eq_left edges, min-eq_left evaluations) refl
