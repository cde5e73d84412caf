use Rattle.outline.proofs.Summing.{first_lem}
use Rattle.outline.proofs.sums.first_point.Goals as goal

pub returns : goal.returns
returns c =
    first_lem c.args.row.now c.first.result c.default.result c.map_or.result c.first.ensures.value (record { none = c.default.ensures; point = c.map_or.ensures })
