-- A float with -0 read as +0. Assumes nothing.
use Rattle.std.specs.Prelude.{zero, suc, false, Float}
use Rattle.std.specs.Float.{nan, inf, fin}

unfoldable pub plain : Float → Float
plain nan = nan
plain (inf s) = inf s
plain (fin s zero e) = fin false zero e
plain (fin s (suc m) e) = fin s (suc m) e
