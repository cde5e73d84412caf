-- Each turn puts one more row's value behind those that stand.
use Rattle.std.proofs.Common.{refl, ◌∙◌, arith, lit≤, length-set}
use lib.Ieee.{of_bits, binary64}
use lib.ListN.{length-replicate}
use Rattle.ellipsoid.proofs.Rows.{rows_put, rows_all}
use Rattle.ellipsoid.proofs.tables.rows.Goals as goal

pub loop-k-init : goal.loop-k-init
loop-k-init g c = (refl, lit≤ tt, length-replicate g.row.N (of_bits binary64 0))

pub loop-k-preserved : goal.loop-k-preserved
loop-k-preserved g c =
    let v = c.loop-k in (
      rows_put c.args.x c.row.result c.args.table.now v.value-items _ c.args.degrees.now v.o v.k (omega arith) (omega arith) c.row.ensures v.invariant.0,
      omega arith,
      length-set v.value-items v.k c.row.result ∙ v.invariant.2,
    )

pub returns : goal.returns
returns g c =
    let v = c.loop-k in
    rows_all c.args.x c.args.table.now v.value-items _ c.args.degrees.now v.o v.k (omega arith) (omega arith) v.invariant.0
