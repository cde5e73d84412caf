-- How many edges an edit solves. Assumes nothing.
use Rattle.std.specs.Prelude.{◌≡◌, ℕ, ◌+◌, ◌*◌, ◌≤◌, cond, ◌&&◌, Result, IfOk, ◌==◌, nat_lt}
use Rattle.surface.specs.declared.refusals.Refusal.{Refusal}
use Rattle.stations.specs.declared.Cost.{Cost}
use Rattle.stations.specs.declared.records.EditRecord.{EditRecord}
use Rattle.stations.specs.Records.{add_kind, move_kind}

-- how many neighbours the point at a place has among `count` points in a row
abbrev pub neighbours : ℕ → ℕ → ℕ
neighbours count place = cond (nat_lt 0 place) 1 0 + cond (nat_lt (place + 1) count) 1 0

-- 1 if it has two neighbours, which become each other's, otherwise 0
abbrev pub bridged : ℕ → ℕ → ℕ
bridged count place = cond (nat_lt 0 place && nat_lt (place + 1) count) 1 0

-- a point added to `count` points: 1 edge, or none on an empty outline
abbrev pub add_edges : ℕ → ℕ
add_edges count = cond (count == 0) 0 1

-- an add taken back: none; a move: as the move; a drop: one for each neighbour of the point that stands again
abbrev pub take_back_edges : ℕ → EditRecord → ℕ
take_back_edges count e =
    cond (e.kind == add_kind) 0 (cond (e.kind == move_kind) (neighbours count e.place) (neighbours (count + 1) e.place))

-- so many edges at most, each by at most 83 evaluations
abbrev pub AtMost : ℕ → Cost → Type 0
AtMost most cost = (cost.edges ≤ most) × (cost.evaluations ≤ 83 * cost.edges)

-- an edit that was not refused solved this many edges, each by at most 83 evaluations
abbrev pub Costs : Result Cost Refusal → ℕ → Type 0
Costs answer edges = IfOk answer (λ cost. (cost.edges ≡ edges) × (cost.evaluations ≤ 83 * cost.edges))
