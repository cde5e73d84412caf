use Rattle.std.proofs.Common.{◌+◌, ◌≤◌, length, drop, sym, ap, ◌∙◌, arith}
use Rattle.outline.proofs.Summing.{on_from, on_more, on_all}
use Rattle.outline.proofs.sums.traverse_over.Goals as goal

pub loop-station-preserved : goal.loop-station-preserved
loop-station-preserved c =
    let row = c.args.row.now in
    let i = c.loop-station.station-index in (
      ap (λ t. on_from t (drop (i + 1) row)) c.with-traverse.ensures.value ∙ sym (on_more c.loop-station.traverse row i (omega arith)) ∙ c.loop-station.invariant.0,
      omega (arith, c.with-traverse.ensures.few, c.loop-station.invariant.1),
    )

pub returns-clause-value : goal.returns-clause-value
returns-clause-value c =
    let row = c.args.row.now in
    let i = c.loop-station.station-index in
    let ended : length row ≤ i = omega arith in
    sym (on_all c.loop-station.traverse row i ended) ∙ c.loop-station.invariant.0
