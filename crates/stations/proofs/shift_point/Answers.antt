-- The point is written, then its station and the next are drawn.
use Rattle.std.proofs.Common.{◌≡◌, set, sym, ap, ◌∙◌, arith}
use Rattle.stations.specs.Stations.{unchanged, redrawn_twice, moved}
use Rattle.stations.proofs.Redrawing.{used, not_used, moved_used, moved_not}
use Rattle.stations.proofs.shift_point.Goals as goal

pub returns-then-place-count : goal.returns-then-place-count
returns-then-place-count g c =
    let edge = g.S.Surface.edges c.args.surface.now in
    let row = c.args.stations.now in
    let same : moved edge row c.args.count c.args.place c.args.point ≡ unchanged row =
    moved_not edge row c.args.count c.args.place c.args.point (not_used row c.args.count c.args.place c.then-place-count.either) in
    record { drawing = sym same; few = (omega arith, omega arith) }

pub returns : goal.returns
returns g c =
    let edge = g.S.Surface.edges c.args.surface.now in
    let row = c.args.stations.now in
    let count = c.args.count in
    let place = c.args.place in
    let e : redrawn_twice edge (set row place c.first.result) count place ≡ moved edge row count place c.args.point =
    ap (λ x. redrawn_twice edge (set row place x) count place) c.first.ensures ∙ sym (moved_used edge row count place (used row count place c.if-place-count.false c.if-count-stations.false) c.args.point) in
    record { drawing = c.redraw_twice.ensures.drawing ∙ e; few = c.redraw_twice.ensures.few }
