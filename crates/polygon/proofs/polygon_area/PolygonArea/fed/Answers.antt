-- A point adds at most one crossing and exactly one to the count.
use Rattle.std.proofs.Common.{◌+◌, ◌+ℤ◌, arith}
use Rattle.polygon.proofs.Feeding.{fed_first, fed_later, few_read, few_more}
use Rattle.polygon.proofs.polygon_area.PolygonArea.fed.Goals as goal

pub returns-then-old-eq0 : goal.returns-then-old-eq0
returns-then-old-eq0 g c =
    let t = c.args.self.now.traverse in
    let few = c.args.self.now.few in
    let back = few_read t.crossings t.num few (omega arith) in
    let first = fed_first (g.S.Surface.edges c.args.self.now.surface) t c.args.point c.if-old-eq0.true in
    record { value = cc; few = rw back (omega arith) }

pub returns : goal.returns
returns g c =
    let t = c.args.self.now.traverse in
    let few = c.args.self.now.few in
    let old = few_read t.crossings t.num few (omega arith) in
    let new = few_read c.transit.result 1 c.transit.ensures.size (omega arith) in
    let more = few_more t.crossings c.transit.result t.num few c.transit.ensures.size in
    let sum = few_read (t.crossings +ℤ c.transit.result) (t.num + 1) more (omega arith) in
    let later = fed_later (g.S.Surface.edges c.args.self.now.surface) t c.args.point (omega arith) in
    let value = c.transit.ensures.value in
    record { value = cc; few = simp (old, new, sum) more }
