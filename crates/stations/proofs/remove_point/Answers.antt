-- The point is taken out, then the station after it is drawn.
use Rattle.std.proofs.Common.{◌≡◌, ◌-◌, sym, ap, ◌∙◌, arith}
use Rattle.stations.specs.Stations.{unchanged, redrawn, dropped}
use Rattle.stations.proofs.Redrawing.{used, not_used, dropped_used, dropped_not}
use Rattle.stations.proofs.remove_point.Goals as goal

pub returns-then-place-count : goal.returns-then-place-count
returns-then-place-count g c =
    let edge = g.S.Surface.edges c.args.surface.now in
    let row = c.args.stations.now in
    let same : dropped edge row c.args.count c.args.place ≡ unchanged row =
    dropped_not edge row c.args.count c.args.place (not_used row c.args.count c.args.place c.then-place-count.either) in
    record { drawing = sym same; few = (omega arith, omega arith) }

pub returns : goal.returns
returns g c =
    let edge = g.S.Surface.edges c.args.surface.now in
    let row = c.args.stations.now in
    let count = c.args.count in
    let place = c.args.place in
    let e : redrawn edge c.take_out.new.row (count - 1) place ≡ dropped edge row count place =
    ap (λ l. redrawn edge l (count - 1) place) c.take_out.ensures ∙ sym (dropped_used edge row count place (used row count place c.if-place-count.false c.if-count-stations.false)) in
    record { drawing = c.redraw.ensures.drawing ∙ e; few = c.redraw.ensures.few }
