-- What taking back a record that fits costs: nothing for an add, one edge for each neighbour otherwise.
use Rattle.std.proofs.Common.{◌≡◌, ℕ, ◌≤◌, true, false, ◌&&◌, eqb, ltb, leb, List, length, refl, ⊎_elim}
use Rattle.std.proofs.lemmas.Bool.{both_ways, ltb-true, leb-true, and_parts, cases_Bool}
use Rattle.geomath.specs.Angles.{accepts}
use Rattle.polygon.specs.Polygons.{Solve}
use Rattle.stations.specs.declared.Station.{Station}
use Rattle.stations.specs.declared.records.EditRecord.{EditRecord}
use Rattle.stations.specs.Records.{old_point, add_kind, move_kind, drop_kind, fits_outline}
use Rattle.stations.specs.Costs.{take_back_edges}
use Rattle.stations.proofs.Costing.{placed_edges, moved_edges}
use Rattle.history.specs.Calls.{undrawn}

module _ (edge : Solve) (row : List Station) (count : ℕ) (held : count ≤ length row) (e : EditRecord) (fit : fits_outline count (length row) e ≡ true) where
  move_back : eqb e.kind add_kind ≡ false → eqb e.kind move_kind ≡ true → (undrawn edge row count e).cost.edges ≡ take_back_edges count e
  move_back other move =
      let both : (ltb e.place count && accepts e.lat e.lon) ≡ true = rw (other, move) at fit in
      let parts = and_parts (ltb e.place count) (accepts e.lat e.lon) both in
      rw (other, move) (moved_edges edge row count e.place (ltb-true e.place count parts.0) held (old_point e))

  put_back : eqb e.kind add_kind ≡ false → eqb e.kind move_kind ≡ false → eqb e.kind drop_kind ≡ true → (undrawn edge row count e).cost.edges ≡ take_back_edges count e
  put_back other another drops =
      let all : ((leb e.place count && ltb count (length row)) && accepts e.lat e.lon) ≡ true = rw (other, another, drops) at fit in
      let parts = and_parts (leb e.place count && ltb count (length row)) (accepts e.lat e.lon) all in
      let room = and_parts (leb e.place count) (ltb count (length row)) parts.0 in
      rw (other, another) (placed_edges edge row count e.place (old_point e) (leb-true e.place count room.0) (ltb-true count (length row) room.1))

  unknown : eqb e.kind add_kind ≡ false → eqb e.kind move_kind ≡ false → eqb e.kind drop_kind ≡ false → ⊥
  unknown other another third = both_ways false refl (rw (other, another, third) at fit)

  pub take_back_edges_lem : (undrawn edge row count e).cost.edges ≡ take_back_edges count e
  take_back_edges_lem =
      ⊎_elim
      (λ add. rw add)
      (λ other. ⊎_elim (move_back other) (λ another. ⊎_elim (put_back other another) (λ third. absurd (unknown other another third)) (cases_Bool (eqb e.kind drop_kind))) (cases_Bool (eqb e.kind move_kind)))
      (cases_Bool (eqb e.kind add_kind))
