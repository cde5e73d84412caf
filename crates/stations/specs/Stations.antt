-- A station and the edge that arrives at it, drawn from the point before. Assumes nothing.
use Rattle.std.specs.Prelude.{ℕ, ◌+◌, ◌-◌, min, cond, List, pos, ◌==◌, slice_index_or, slice_set}
use Rattle.std.specs.Float.{nan}
use Rattle.geomath.specs.Angles.{zero}
use Rattle.polygon.specs.declared.Point.{Point}
use Rattle.polygon.specs.Transits.{transit_of}
use Rattle.polygon.specs.Polygons.{Solve}
use Rattle.rows.specs.Rows.{has_room, is_in_use, put_in, take_out}
use Rattle.stations.specs.declared.Station.{Station}
use Rattle.stations.specs.declared.Cost.{Cost}

-- ---- one station

abbrev pub point_of : Station → Point
point_of s = record { lat = s.lat; lon = s.lon }

-- the first station: no edge arrives
abbrev pub first_station : Point → Station
first_station p =
    record { lat = p.lat; lon = p.lon; s12 = zero; S12 = zero; crossing = pos 0; evaluations = 0 }

-- a later station, with the edge from the point p before it
abbrev pub next_station : Solve → Point → Point → Station
next_station edge p q =
    record {
      lat = q.lat;
      lon = q.lon;
      s12 = (edge p.lat p.lon q.lat q.lon).s12;
      S12 = (edge p.lat p.lon q.lat q.lon).S12;
      crossing = transit_of p.lon q.lon;
      evaluations = (edge p.lat p.lon q.lat q.lon).evaluations;
    }

-- what stands where a row has no slot
abbrev pub blank : Station
blank = record { lat = nan; lon = nan; s12 = nan; S12 = nan; crossing = pos 0; evaluations = 0 }

abbrev pub point_at : List Station → ℕ → Point
point_at row place = point_of (slice_index_or row place blank)

-- ---- edges solved, and the evaluations spent on them

abbrev pub free : Cost
free = record { edges = 0; evaluations = 0 }

abbrev pub one_edge : ℕ → Cost
one_edge evaluations = record { edges = 1; evaluations = evaluations }

abbrev pub together : Cost → Cost → Cost
together a b = record { edges = a.edges + b.edges; evaluations = a.evaluations + b.evaluations }

-- both together in numbers of 32 bits, of which the greatest stands for all above it
abbrev pub capped : Cost → Cost → Cost
capped a b = record { edges = min (a.edges + b.edges) 4294967295; evaluations = min (a.evaluations + b.evaluations) 4294967295 }

-- ---- a row redrawn

-- a row of stations, and what it cost to draw it
pub record Drawing : Type 0 where
  pub stations : List Station
  pub cost : Cost

abbrev pub drawing : List Station → Cost → Drawing
drawing row cost = record { stations = row; cost = cost }

-- the station at a place as it is drawn from the one before
abbrev pub station_at : Solve → List Station → ℕ → Station
station_at edge row place =
    cond (place == 0) (first_station (point_at row place)) (next_station edge (point_at row (place - 1)) (point_at row place))

abbrev pub cost_at : Solve → List Station → ℕ → Cost
cost_at edge row place = cond (place == 0) free (one_edge (station_at edge row place).evaluations)

-- the row with the station at a place drawn anew, if one of its first `count` stations stands there
unfoldable pub redrawn : Solve → List Station → ℕ → ℕ → Drawing
redrawn edge row count place =
    cond
    (is_in_use row count place)
    (record { stations = slice_set row place (station_at edge row place); cost = cost_at edge row place })
    (record { stations = row; cost = free })

-- the same for two stations, one after the other
unfoldable pub redrawn_twice : Solve → List Station → ℕ → ℕ → Drawing
redrawn_twice edge row count place =
    let once = redrawn edge row count place in
    let twice = redrawn edge once.stations count (place + 1) in
    record { stations = twice.stations; cost = together once.cost twice.cost }

-- ---- a point placed, moved, dropped

abbrev pub unchanged : List Station → Drawing
unchanged row = record { stations = row; cost = free }

-- a point put in at a place: it and the station after it are drawn anew
unfoldable pub placed : Solve → List Station → ℕ → ℕ → Point → Drawing
placed edge row count place p =
    cond (has_room row count place) (redrawn_twice edge (put_in row count place (first_station p)) (count + 1) place) (unchanged row)

-- the point at a place replaced: it and the station after it are drawn anew
unfoldable pub moved : Solve → List Station → ℕ → ℕ → Point → Drawing
moved edge row count place p =
    cond (is_in_use row count place) (redrawn_twice edge (slice_set row place (first_station p)) count place) (unchanged row)

-- the point at a place taken out: the station after it is drawn anew
unfoldable pub dropped : Solve → List Station → ℕ → ℕ → Drawing
dropped edge row count place =
    cond (is_in_use row count place) (redrawn edge (take_out row count place) (count - 1) place) (unchanged row)
