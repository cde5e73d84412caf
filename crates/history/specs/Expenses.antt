-- What the calls on an outline cost, by the book: the edges that a call solves, of the points that stand afterwards, and what each entry of the past undoes. Assumes nothing.
use Rattle.std.specs.Prelude.{ℕ, ◌+◌, ◌-◌, ◌≤◌, cond, ◌&&◌, List, [], ◌∷◌, ◌++◌, length, take, drop, Ok, Err, ◌==◌, nat_lt, slice_index_or}
use Rattle.polygon.specs.declared.Point.{Point}
use Rattle.polygon.specs.Polygons.{Solve, Ends, solved, origin, closing_edge}
use Rattle.stations.specs.declared.Cost.{Cost}
use Rattle.stations.specs.declared.records.EditRecord.{EditRecord}
use Rattle.stations.specs.Stations.{free, one_edge, together}
use Rattle.stations.specs.Records.{add_kind, add_record, move_record, drop_record}
use Rattle.history.specs.declared.Call.{Call}
use Rattle.history.specs.declared.Call.TheVariants.{Add, Move, Drop, TakeBack, Measure}
use Rattle.history.specs.declared.Done.{Done}
use Rattle.history.specs.declared.Done.TheVariants.{Edited, Measured}
use Rattle.history.specs.Calls.{Answer}

-- ---- edges

-- the edge that arrives at a place of these points, if there is a point at it and one before it
abbrev pub arriving : List Point → ℕ → List Ends
arriving ps place =
    cond (nat_lt 0 place && nat_lt place (length ps)) (record { from = slice_index_or ps (place - 1) origin; to = slice_index_or ps place origin } ∷ []) []

-- the edges at a place: the one that arrives there, and the one that goes on to the next point
abbrev pub beside : List Point → ℕ → List Ends
beside ps place = arriving ps place ++ arriving ps (place + 1)

-- what solving edges costs
abbrev pub cost_of : Solve → List Ends → Cost
cost_of edge [] = free
cost_of edge (e ∷ es) = together (one_edge (solved edge e).evaluations) (cost_of edge es)

-- what a call cost that was made
abbrev pub cost_of_done : Done → Cost
cost_of_done (Edited cost) = cost
cost_of_done (Measured m) = m.cost

-- what an answer tells of its cost
abbrev pub cost_in : Answer → Cost
cost_in (Ok done) = cost_of_done done
cost_in (Err e) = free

-- at most two edges, each by at most 83 evaluations
abbrev pub Affordable : Cost → Type 0
Affordable cost = (cost.edges ≤ 2) × (cost.evaluations ≤ 166)

-- ---- what each entry of the past undoes, the newest first

-- the record of an edit of standing points; a take back and a measure have none
abbrev pub records_of : List Point → Call → List EditRecord
records_of ps (Add lat lon) = add_record (length ps) ∷ []
records_of ps (Move place lat lon) = move_record place (slice_index_or ps place origin) ∷ []
records_of ps (Drop place) = drop_record place (slice_index_or ps place origin) ∷ []
records_of ps TakeBack = []
records_of ps (Measure sign) = []

-- the records after a call: an edit's goes in front, of which the newest `most` remain, and a take back spends the front
abbrev pub records_after : ℕ → List Point → List EditRecord → Call → List EditRecord
records_after most ps records (Add lat lon) = take most (records_of ps (Add lat lon) ++ records)
records_after most ps records (Move place lat lon) = take most (records_of ps (Move place lat lon) ++ records)
records_after most ps records (Drop place) = take most (records_of ps (Drop place) ++ records)
records_after most ps records TakeBack = drop 1 records
records_after most ps records (Measure sign) = records

-- ---- the edges that a call solves

-- taking back an add solves none; a move or a drop, those beside the point that stands again
abbrev pub solved_back : List EditRecord → List Point → List Ends
solved_back [] after = []
solved_back (e ∷ records) after = cond (e.kind == add_kind) [] (beside after e.place)

-- of the points that stand after the call: the edge to an added point, those beside a moved one, the one that closes the gap of a dropped one; a measure solves the closing edge
abbrev pub solved_by : Call → List EditRecord → List Point → List Ends
solved_by (Add lat lon) records after = arriving after (length after - 1)
solved_by (Move place lat lon) records after = beside after place
solved_by (Drop place) records after = arriving after place
solved_by TakeBack records after = solved_back records after
solved_by (Measure sign) records after = closing_edge after ∷ []
