-- When an edge crosses the prime meridian. Assumes nothing.
use Rattle.std.specs.Prelude.{Bool, cond, ◌&&◌, ◌||◌, ℤ, pos, negsuc, Float}
use Rattle.floats.specs.Arithmetic.{◌≺◌, ◌≻◌, ◌≽◌, ◌≗◌}
use Rattle.geomath.specs.Angles.{zero, ang_normalize, ang_diff}

-- eastward: from the west of the meridian to it or past it, or from the east onto it, the long way round
abbrev pub eastward : Float → Float → Float → Bool
eastward d lon1 lon2 = (d ≻ zero) && (((lon1 ≺ zero) && (lon2 ≽ zero)) || ((lon1 ≻ zero) && (lon2 ≗ zero)))

-- westward: from the meridian or the east of it to the west
abbrev pub westward : Float → Float → Float → Bool
westward d lon1 lon2 = (d ≺ zero) && (lon1 ≽ zero) && (lon2 ≺ zero)

-- 1 or -1 for a crossing in the east or west direction, otherwise 0; a longitude of either zero counts as east
abbrev pub crossing : Float → Float → Float → ℤ
crossing d lon1 lon2 = cond (eastward d lon1 lon2) (pos 1) (cond (westward d lon1 lon2) (negsuc 0) (pos 0))

-- the crossing of the edge between two longitudes, the shorter way round
unfoldable pub transit_of : Float → Float → ℤ
transit_of lon1 lon2 = crossing (ang_diff lon1 lon2) (ang_normalize lon1) (ang_normalize lon2)
