-- Each return is what the definition comes to under the same tests.
use Rattle.std.proofs.Common.{◌-◌, Ok, sym, refl, ap, ◌∙◌, arith, eq-eqb, ne_eqb}
use Rattle.std.proofs.lemmas.Result.{IfOk-from_err}
use Rattle.stations.specs.Stations.{Drawing}
use Rattle.history.specs.Calls.{left, with_counts, newest_of}
use Rattle.history.proofs.TakeBackCosts.{take_back_edges_lem}
use Rattle.history.proofs.Outcomes.{take_back_lengths, take_back_none, take_back_unfit, take_back_done}
use Rattle.outline.proofs.Leaving.{same_left, rows_off}
use Rattle.outline.proofs.outlines.Outline.take_back.Goals as goal

pub returns-in_err-rows_fit : goal.returns-in_err-rows_fit
returns-in_err-rows_fit g c =
    let e = take_back_lengths (g.S.Surface.edges c.args.self.now.surface) c.args.self.now.frame c.args.stations.now c.args.edits.now c.in_err-rows_fit.ensures.0 in
    let is = rows_off c.from_residual.result c.in_err-rows_fit.field-0.0 c.from_residual.ensures.1 c.in_err-rows_fit.ensures.1 in
    record {
      left = ap (λ r. left r c.args.self.now.frame c.args.stations.now c.args.edits.now) is ∙ sym e;
      surface = refl;
      cost = IfOk-from_err c.from_residual.result _ c.from_residual.ensures.0;
    }

pub returns-then-counts-eq0 : goal.returns-then-counts-eq0
returns-then-counts-eq0 g c =
    let e = take_back_none (g.S.Surface.edges c.args.self.now.surface) c.args.self.now.frame c.args.stations.now c.args.edits.now c.in_ok-rows_fit.ensures.0 (eq-eqb c.args.self.now.frame.counts.edits 0 c.if-counts-eq0.true) in
    record { left = sym e; surface = refl; cost = tt }

pub returns-in_default : goal.returns-in_default
returns-in_default g c =
    let e = take_back_unfit (g.S.Surface.edges c.args.self.now.surface) c.args.self.now.frame c.args.stations.now c.args.edits.now c.in_ok-rows_fit.ensures.0 (ne_eqb c.args.self.now.frame.counts.edits 0 c.if-counts-eq0.false) c.in_default.ensures in
    record { left = sym e; surface = refl; cost = tt }

pub returns : goal.returns
returns g c =
    let e = take_back_done (g.S.Surface.edges c.args.self.now.surface) c.args.self.now.frame c.args.stations.now c.args.edits.now c.in_ok-rows_fit.ensures.0 (ne_eqb c.args.self.now.frame.counts.edits 0 c.if-counts-eq0.false) c.in-Some.ensures.0 in
    record {
      left = same_left (ap (λ (d : Drawing). Ok d.cost) c.undraw-held.ensures.drawing) (ap (λ n. with_counts c.args.self.now.frame n (c.args.self.now.frame.counts.edits - 1)) c.undraw-held.ensures.count) (ap (λ (d : Drawing). d.stations) c.undraw-held.ensures.drawing) refl ∙ sym e;
      surface = refl;
      cost = (ap (λ (d : Drawing). d.cost.edges) c.undraw-held.ensures.drawing ∙ take_back_edges_lem (g.S.Surface.edges c.args.self.now.surface) c.args.stations.now c.args.self.now.frame.counts.stations (omega (arith, c.in_ok-rows_fit.ensures.1)) (newest_of c.args.edits.now c.args.self.now.frame.counts.edits) c.in-Some.ensures.0, c.undraw-held.ensures.few);
    }
