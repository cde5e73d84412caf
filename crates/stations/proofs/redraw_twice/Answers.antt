-- The second call finds the row as the first left it.
use Rattle.std.proofs.Common.{◌≡◌, ◌+◌, ap, ◌∙◌, arith}
use Rattle.stations.specs.declared.Cost.{Cost}
use Rattle.stations.specs.Stations.{Drawing, drawing, together, redrawn, redrawn_twice}
use Rattle.stations.proofs.Costing.{capped_is}
use Rattle.stations.proofs.redraw_twice.Goals as goal

pub returns : goal.returns
unfolding redrawn_twice
returns g c =
    let edge = g.S.Surface.edges c.args.surface.now in
    let row = c.args.stations.now in
    let count = c.args.count in
    let place = c.args.place in
    let then : Drawing → Drawing =
    λ d. drawing (redrawn edge d.stations count (place + 1)).stations (together d.cost (redrawn edge d.stations count (place + 1)).cost) in
    let here = c.redraw-here.ensures.few in
    let after = c.redraw-after.ensures.few in
    let sum : c.add.result ≡ together c.redraw-here.result c.redraw-after.result =
    c.add.ensures ∙ capped_is c.redraw-here.result c.redraw-after.result (omega (arith, here.0, after.0)) (omega (arith, here.0, here.1, after.0, after.1)) in
    record {
      drawing =
          ap (drawing c.redraw-after.new.stations) sum
          ∙ ap (λ (d : Drawing). drawing d.stations (together c.redraw-here.result d.cost)) c.redraw-after.ensures.drawing
          ∙ ap then c.redraw-here.ensures.drawing;
      few = (
        omega (arith, ap (λ (x : Cost). x.edges) sum, here.0, after.0),
        omega (arith, ap (λ (x : Cost). x.edges) sum, ap (λ (x : Cost). x.evaluations) sum, here.1, after.1),
      );
    }
