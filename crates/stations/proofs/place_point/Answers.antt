-- The point is put in, then its station and the next are drawn.
use Rattle.std.proofs.Common.{◌≡◌, ◌+◌, sym, ap, ◌∙◌, arith}
use Rattle.rows.specs.Rows.{put_in}
use Rattle.stations.specs.Stations.{first_station, unchanged, redrawn_twice, placed}
use Rattle.stations.proofs.Redrawing.{room, no_room, placed_room, placed_not}
use Rattle.stations.proofs.place_point.Goals as goal

pub returns-then-place-count : goal.returns-then-place-count
returns-then-place-count g c =
    let edge = g.S.Surface.edges c.args.surface.now in
    let row = c.args.stations.now in
    let same : placed edge row c.args.count c.args.place c.args.point ≡ unchanged row =
    placed_not edge row c.args.count c.args.place c.args.point (no_room row c.args.count c.args.place c.then-place-count.either) in
    record { drawing = sym same; few = (omega arith, omega arith) }

pub returns : goal.returns
returns g c =
    let edge = g.S.Surface.edges c.args.surface.now in
    let row = c.args.stations.now in
    let count = c.args.count in
    let place = c.args.place in
    let put : c.put_in.new.row ≡ put_in row count place (first_station c.args.point) =
    c.put_in.ensures ∙ ap (put_in row count place) c.first.ensures in
    let e : redrawn_twice edge c.put_in.new.row (count + 1) place ≡ placed edge row count place c.args.point =
    ap (λ l. redrawn_twice edge l (count + 1) place) put ∙ sym (placed_room edge row count place c.args.point (room row count place c.if-place-count.false c.if-count-stations.false)) in
    record { drawing = c.redraw_twice.ensures.drawing ∙ e; few = c.redraw_twice.ensures.few }
