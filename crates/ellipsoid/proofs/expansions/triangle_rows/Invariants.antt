-- What stands and what is left make the whole; the place in the table stays small.
use Rattle.std.proofs.Common.{◌≡◌, ◌-◌, ◌*◌, ◌≤◌, ◌++◌, length, take, drop}
use Rattle.ellipsoid.specs.Expansions.{triangle}
use Rattle.ellipsoid.proofs.expansions.triangle_rows.Given as goal

abbrev pub invariant-loop-l : goal.invariant-loop-l
invariant-loop-l g v =
    (take v.l v.value-items ++ triangle v.x v.power (drop v.o v.table) (g.row.N - v.l) ≡ triangle v.x v.initial.power v.table g.row.N)
    × (v.o ≤ 6 * v.l) × (length v.value-items ≡ g.row.N)
