-- A station is drawn from the points that the code reads out of the row.
use Rattle.std.proofs.Common.{◌≡◌, ◌-◌, ◌<◌, set, sym, ap, ◌∙◌, arith}
use Rattle.stations.specs.declared.Station.{Station}
use Rattle.stations.specs.Stations.{drawing, free, point_at, one_edge, unchanged, first_station, next_station, redrawn}
use Rattle.stations.proofs.Redrawing.{used, not_used, redrawn_not, redrawn_first, redrawn-next}
use Rattle.stations.proofs.redraw.Goals as goal

pub returns-then-place-count : goal.returns-then-place-count
returns-then-place-count g c =
    let edge = g.S.Surface.edges c.args.surface.now in
    let row = c.args.stations.now in
    let same : redrawn edge row c.args.count c.args.place ≡ unchanged row =
    redrawn_not edge row c.args.count c.args.place (not_used row c.args.count c.args.place c.then-place-count.either) in
    record { drawing = sym same; few = (omega arith, omega arith) }

pub returns-then-place-eq0 : goal.returns-then-place-eq0
returns-then-place-eq0 g c =
    let edge = g.S.Surface.edges c.args.surface.now in
    let row = c.args.stations.now in
    let place = c.args.place in
    let e = redrawn_first edge row c.args.count place (used row c.args.count place c.if-place-count.false c.if-count-stations.false) c.if-place-eq0.true in
    let s : c.first.result ≡ first_station (point_at row place) = c.first.ensures ∙ ap first_station c.point-at.ensures in
    record { drawing = ap (λ x. drawing (set row place x) free) s ∙ sym e; few = (omega arith, omega arith) }

pub returns : goal.returns
returns g c =
    let edge = g.S.Surface.edges c.args.surface.now in
    let row = c.args.stations.now in
    let place = c.args.place in
    let above : 0 < place = omega (arith, c.if-place-eq0.false) in
    let e = redrawn-next edge row c.args.count place (used row c.args.count place c.if-place-count.false c.if-count-stations.false) above in
    let s : c.next-station.result ≡ next_station edge (point_at row (place - 1)) (point_at row place) =
    c.next-station.ensures.value ∙ ap (λ p. next_station edge p c.point-at.result) c.point-before.ensures ∙ ap (next_station edge (point_at row (place - 1))) c.point-at.ensures in
    record {
      drawing = ap (λ (x : Station). drawing (set row place x) (one_edge x.evaluations)) s ∙ sym e;
      few = (omega arith, c.next-station.ensures.few);
    }
