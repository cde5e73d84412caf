-- Each return is what the definition comes to under the same tests.
use Rattle.std.proofs.Common.{Ok, sym, refl, ap, ◌∙◌, arith}
use Rattle.std.proofs.lemmas.Result.{IfOk-from_err}
use Rattle.stations.specs.Stations.{Drawing}
use Rattle.stations.proofs.Costing.{dropped_edges}
use Rattle.stations.specs.Records.{noted, drop_record}
use Rattle.history.specs.Calls.{left}
use Rattle.history.proofs.Outcomes.{drop-lengths, drop_above, drop_done}
use Rattle.outline.proofs.Leaving.{same_left, rows_off}
use Rattle.outline.proofs.outlines.Outline.drop_at.Goals as goal

pub returns-in_err-rows_fit : goal.returns-in_err-rows_fit
returns-in_err-rows_fit g c =
    let e = drop-lengths (g.S.Surface.edges c.args.self.now.surface) c.args.self.now.frame c.args.stations.now c.args.edits.now c.in_err-rows_fit.ensures.0 c.args.place in
    let is = rows_off c.from_residual.result c.in_err-rows_fit.field-0.0 c.from_residual.ensures.1 c.in_err-rows_fit.ensures.1 in
    record {
      left = ap (λ r. left r c.args.self.now.frame c.args.stations.now c.args.edits.now) is ∙ sym e;
      surface = refl;
      cost = IfOk-from_err c.from_residual.result _ c.from_residual.ensures.0;
    }

pub returns-then-place-count : goal.returns-then-place-count
returns-then-place-count g c =
    let e = drop_above (g.S.Surface.edges c.args.self.now.surface) c.args.self.now.frame c.args.stations.now c.args.edits.now c.in_ok-rows_fit.ensures.0 c.args.place c.if-place-count.true in
    record { left = sym e; surface = refl; cost = tt }

pub returns : goal.returns
returns g c =
    let e = drop_done (g.S.Surface.edges c.args.self.now.surface) c.args.self.now.frame c.args.stations.now c.args.edits.now c.in_ok-rows_fit.ensures.0 c.args.place c.if-place-count.false in
    record {
      left = same_left (ap (λ (d : Drawing). Ok d.cost) c.remove_point-cost.ensures.drawing) c.note_edit.ensures.frame (ap (λ (d : Drawing). d.stations) c.remove_point-cost.ensures.drawing) (c.note_edit.ensures.edits ∙ ap (noted c.args.edits.now c.args.self.now.frame.counts.edits) (c.dropped.ensures ∙ ap (drop_record c.args.place) c.point-old.ensures)) ∙ sym e;
      surface = c.note_edit.ensures.surface;
      cost = (ap (λ (d : Drawing). d.cost.edges) c.remove_point-cost.ensures.drawing ∙ dropped_edges (g.S.Surface.edges c.args.self.now.surface) c.args.stations.now c.args.self.now.frame.counts.stations c.args.place c.if-place-count.false (omega (arith, c.in_ok-rows_fit.ensures.1)), c.remove_point-cost.ensures.few.1);
    }
