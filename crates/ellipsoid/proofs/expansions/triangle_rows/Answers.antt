-- Each turn puts one more row's value behind those that stand.
use Rattle.std.proofs.Common.{◌≡◌, ◌+◌, ◌-◌, drop, ap, ◌∙◌, arith, lit≤, length-set}
use native.Mathlib.Nat.{sub-zero}
use lib.Ieee.{of_bits, binary64, mul}
use lib.ListN.{length-replicate}
use Rattle.ellipsoid.specs.Expansions.{triangle}
use Rattle.ellipsoid.proofs.Rows.{triangle_put, triangle_all}
use Rattle.ellipsoid.proofs.expansions.triangle_rows.Goals as goal

pub loop-l-init : goal.loop-l-init
loop-l-init g c =
    (ap (triangle c.args.x c.args.power c.args.table.now) (sub-zero g.row.N), lit≤ tt, length-replicate g.row.N (of_bits binary64 0))

pub loop-l-preserved : goal.loop-l-preserved
loop-l-preserved g c =
    let v = c.loop-l in let m = g.row.N - v.l - 1 in let next : g.row.N - (v.l + 1) ≡ m = omega arith in (
      rw next (triangle_put c.args.x v.power c.polyval_at.result c.args.table.now v.value-items _ v.o v.l (g.row.N - v.l) m (omega arith) (omega arith) c.polyval_at.ensures v.invariant.0),
      omega arith,
      length-set v.value-items v.l (mul binary64 v.power c.polyval_at.result) ∙ v.invariant.2,
    )

pub returns : goal.returns
returns g c =
    let v = c.loop-l in
    triangle_all c.args.x v.power (drop v.o c.args.table.now) v.value-items _ v.l (g.row.N - v.l) (omega arith) (omega arith) v.invariant.0
