-- What stands and what is left make the whole; the place in the table stays small.
use Rattle.std.proofs.Common.{◌≡◌, ◌*◌, ◌≤◌, ◌++◌, length, take, drop}
use Rattle.ellipsoid.specs.Tables.{rows_of}
use Rattle.ellipsoid.proofs.tables.rows.Given as goal

abbrev pub invariant-loop-k : goal.invariant-loop-k
invariant-loop-k g v =
    (take v.k v.value-items ++ rows_of v.x (drop v.o v.table) (drop v.k v.degrees) ≡ rows_of v.x v.table v.degrees)
    × (v.o ≤ 257 * v.k) × (length v.value-items ≡ g.row.N)
