-- Each return is what the definition comes to under the same tests.
use Rattle.std.proofs.Common.{Ok, sym, refl, ap, ◌∙◌, arith}
use Rattle.std.proofs.lemmas.Result.{IfOk-from_err}
use Rattle.stations.specs.Stations.{Drawing}
use Rattle.stations.proofs.Costing.{placed_edges, last_neighbours}
use Rattle.stations.specs.Records.{noted}
use Rattle.history.specs.Calls.{left}
use Rattle.history.proofs.Outcomes.{add-lengths, add_off, add-full, add_done}
use Rattle.outline.proofs.Leaving.{same_left, rows_off}
use Rattle.outline.proofs.outlines.Outline.add.Goals as goal

pub returns-in_err-rows_fit : goal.returns-in_err-rows_fit
returns-in_err-rows_fit g c =
    let e = add-lengths (g.S.Surface.edges c.args.self.now.surface) c.args.self.now.frame c.args.stations.now c.args.edits.now c.in_err-rows_fit.ensures.0 c.args.lat c.args.lon in
    let is = rows_off c.from_residual.result c.in_err-rows_fit.field-0.0 c.from_residual.ensures.1 c.in_err-rows_fit.ensures.1 in
    record {
      left = ap (λ r. left r c.args.self.now.frame c.args.stations.now c.args.edits.now) is ∙ sym e;
      surface = refl;
      cost = IfOk-from_err c.from_residual.result _ c.from_residual.ensures.0;
    }

pub returns-then-not-accepted : goal.returns-then-not-accepted
returns-then-not-accepted g c =
    let e = add_off (g.S.Surface.edges c.args.self.now.surface) c.args.self.now.frame c.args.stations.now c.args.edits.now c.in_ok-rows_fit.ensures.0 c.args.lat c.args.lon (sym c.accepted.ensures ∙ c.if-not-accepted.true) in
    record { left = sym e; surface = refl; cost = tt }

pub returns-then-count-stations : goal.returns-then-count-stations
returns-then-count-stations g c =
    let e = add-full (g.S.Surface.edges c.args.self.now.surface) c.args.self.now.frame c.args.stations.now c.args.edits.now c.in_ok-rows_fit.ensures.0 c.args.lat c.args.lon (sym c.accepted.ensures ∙ c.if-not-accepted.false) c.if-count-stations.true in
    record { left = sym e; surface = refl; cost = tt }

pub overflow_add-place : goal.overflow_add-place
overflow_add-place g c = omega (arith, c.in_ok-rows_fit.ensures.1)

pub returns : goal.returns
returns g c =
    let e = add_done (g.S.Surface.edges c.args.self.now.surface) c.args.self.now.frame c.args.stations.now c.args.edits.now c.in_ok-rows_fit.ensures.0 c.args.lat c.args.lon (sym c.accepted.ensures ∙ c.if-not-accepted.false) c.if-count-stations.false in
    record {
      left = same_left (ap (λ (d : Drawing). Ok d.cost) c.place_point-cost.ensures.drawing) c.note_edit.ensures.frame (ap (λ (d : Drawing). d.stations) c.place_point-cost.ensures.drawing) (c.note_edit.ensures.edits ∙ ap (noted c.args.edits.now c.args.self.now.frame.counts.edits) c.added.ensures) ∙ sym e;
      surface = c.note_edit.ensures.surface;
      cost = (ap (λ (d : Drawing). d.cost.edges) c.place_point-cost.ensures.drawing ∙ placed_edges (g.S.Surface.edges c.args.self.now.surface) c.args.stations.now c.args.self.now.frame.counts.stations c.args.self.now.frame.counts.stations (record { lat = c.args.lat; lon = c.args.lon }) (omega arith) c.if-count-stations.false ∙ last_neighbours c.args.self.now.frame.counts.stations, c.place_point-cost.ensures.few.1);
    }
