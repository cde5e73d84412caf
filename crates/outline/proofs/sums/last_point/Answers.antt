use Rattle.outline.proofs.Summing.{last_lem}
use Rattle.outline.proofs.sums.last_point.Goals as goal

pub returns : goal.returns
returns c =
    last_lem c.args.row.now c.last.result c.default.result c.map_or.result c.last.ensures.value (record { none = c.default.ensures; point = c.map_or.ensures })
