-- Each return is what the definition comes to under the same tests.
use Rattle.std.proofs.Common.{◌≡◌, ◌-◌, ◌≤◌, map, take, Ok, sym, ap, ◌∙◌, subst, arith}
use Rattle.std.proofs.lemmas.Result.{IfOk-from_err}
use Rattle.polygon.specs.Polygons.{first_of, last_of}
use Rattle.stations.specs.Stations.{point_of}
use Rattle.history.specs.Calls.{measured}
use Rattle.history.specs.declared.Measurement.{Measurement}
use Rattle.history.proofs.Outcomes.{measure_lengths, measure_done}
use Rattle.outline.proofs.Leaving.{rows_off}
use Rattle.outline.proofs.WholeRule.{whole_rule}
use Rattle.outline.proofs.outlines.Outline.measure.Goals as goal

pub returns-in_err-rows_fit : goal.returns-in_err-rows_fit
returns-in_err-rows_fit g c =
    let is = rows_off c.from_residual.result c.in_err-rows_fit.field-0.0 c.from_residual.ensures.1 c.in_err-rows_fit.ensures.1 in
    record { answer = is ∙ sym (measure_lengths (g.S.Surface.edges c.args.self.now.surface) c.args.self.now.frame c.args.stations.now c.args.edits.now c.in_err-rows_fit.ensures.0 (g.S.Surface.whole c.args.self.now.surface) c.args.sign); edges = IfOk-from_err c.from_residual.result _ c.from_residual.ensures.0; rule = whole_rule }

pub returns : goal.returns
returns g c =
    let edge = g.S.Surface.edges c.args.self.now.surface in
    let whole = g.S.Surface.whole c.args.self.now.surface in
    let f = c.args.self.now.frame in
    let row = c.args.stations.now in
    let all : f.counts.stations - 0 ≡ f.counts.stations = omega arith in
    let part : measured edge whole f.winding c.args.sign (take (f.counts.stations - 0) row) ≡ measured edge whole f.winding c.args.sign (take f.counts.stations row) =
    ap (λ n. measured edge whole f.winding c.args.sign (take n row)) all in
    let used = take (f.counts.stations - 0) row in
    let last = last_of (map point_of used) in
    let first = first_of (map point_of used) in
    let few : c.closed.result.cost.evaluations ≤ 83 =
    subst (λ n. n ≤ 83) (sym (ap (λ (m : Measurement). m.cost.evaluations) c.closed.ensures)) (g.met.S.Surface.few c.args.self.now.surface last.lat last.lon first.lat first.lon) in
    record {
      answer = ap Ok (c.closed.ensures ∙ part) ∙ sym (measure_done edge f row c.args.edits.now c.in_ok-rows_fit.ensures.0 whole c.args.sign);
      edges = (ap (λ (m : Measurement). m.cost.edges) c.closed.ensures, few);
      rule = whole_rule;
    }
