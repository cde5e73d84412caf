-- What drawing stations anew gives: nothing where none is in use, no edge in the first, one edge in a later one.
use Rattle.std.proofs.Common.{◌≡◌, ℕ, ◌+◌, ◌-◌, ◌<◌, ◌≤◌, true, false, ltb, leb, ◌⊎◌, List, length, set, inl, inr, arith}
use Rattle.std.proofs.lemmas.Bool.{lt-ltb, le-ltb, le-leb, lt-leb, and_from, and_left, and_right, eq-eqb, ne_eqb}
use Rattle.polygon.specs.Polygons.{Solve}
use Rattle.stations.specs.declared.Station.{Station}
use Rattle.polygon.specs.declared.Point.{Point}
use Rattle.rows.specs.Rows.{has_room, is_in_use, put_in, take_out}
use Rattle.stations.specs.Stations.{point_at, first_station, next_station, free, one_edge, unchanged, redrawn, redrawn_twice, placed, moved, dropped}

-- ---- the two tests on a row

module _ {X : Type 0} (row : List X) (count place : ℕ) where
  pub room : place ≤ count → count < length row → has_room row count place ≡ true
  room low free = and_from (leb place count) (ltb count (length row)) (le-leb place count low) (lt-ltb count (length row) free)

  pub no_room : (count < place) ⊎ ((place ≤ count) × (length row ≤ count)) → has_room row count place ≡ false
  no_room (inl above) = and_left (leb place count) (ltb count (length row)) (lt-leb place count above)
  no_room (inr full) = and_right (leb place count) (ltb count (length row)) (le-ltb count (length row) full.1)

  pub used : place < count → count ≤ length row → is_in_use row count place ≡ true
  used low held = and_from (ltb place count) (leb count (length row)) (lt-ltb place count low) (le-leb count (length row) held)

  pub not_used : (count ≤ place) ⊎ ((place < count) × (length row < count)) → is_in_use row count place ≡ false
  not_used (inl above) = and_left (ltb place count) (leb count (length row)) (le-ltb place count above)
  not_used (inr past) = and_right (ltb place count) (leb count (length row)) (lt-leb count (length row) past.1)

-- ---- a row redrawn

module _ (edge : Solve) (row : List Station) (count place : ℕ) where
  pub redrawn_not : is_in_use row count place ≡ false → redrawn edge row count place ≡ unchanged row
  unfolding redrawn
  redrawn_not test = rw test

  module _ (test : is_in_use row count place ≡ true) where
    pub redrawn_first : place ≡ 0 → redrawn edge row count place ≡ record { stations = set row place (first_station (point_at row place)); cost = free }
    unfolding redrawn
    redrawn_first is = rw (test, eq-eqb place 0 is)

    pub redrawn-next : 0 < place → redrawn edge row count place ≡ record { stations = set row place (next_station edge (point_at row (place - 1)) (point_at row place)); cost = one_edge (next_station edge (point_at row (place - 1)) (point_at row place)).evaluations }
    unfolding redrawn
    redrawn-next above = let ne : place ≡ 0 → ⊥ = λ e. omega arith in rw (test, ne_eqb place 0 ne)

    pub moved_used : (p : Point) → moved edge row count place p ≡ redrawn_twice edge (set row place (first_station p)) count place
    unfolding moved
    moved_used p = rw test

    pub dropped_used : dropped edge row count place ≡ redrawn edge (take_out row count place) (count - 1) place
    unfolding dropped
    dropped_used = rw test

  pub moved_not : (p : Point) → is_in_use row count place ≡ false → moved edge row count place p ≡ unchanged row
  unfolding moved
  moved_not p test = rw test

  pub dropped_not : is_in_use row count place ≡ false → dropped edge row count place ≡ unchanged row
  unfolding dropped
  dropped_not test = rw test

  pub placed_room : (p : Point) → has_room row count place ≡ true → placed edge row count place p ≡ redrawn_twice edge (put_in row count place (first_station p)) (count + 1) place
  unfolding placed
  placed_room p test = rw test

  pub placed_not : (p : Point) → has_room row count place ≡ false → placed edge row count place p ≡ unchanged row
  unfolding placed
  placed_not p test = rw test
