-- A NaN counts as not negative.
use Rattle.std.proofs.Common.{◌≡◌, true, sym, refl}
use lib.Ieee.{Float, nan, inf, fin, is_nan}
use Rattle.floats.specs.Arithmetic.{bits}
use Rattle.functions.specs.Arcs.{level_of}
use Rattle.std.specs.Float.{is_sign_negative}
use Rattle.functions.proofs.arcs.level.Goals as goal

nan_is_level : (x : Float) → is_nan x ≡ true → bits 0 ≡ level_of x
unfolding is_nan is_sign_negative
nan_is_level nan e = refl
nan_is_level (inf s) e = cc
nan_is_level (fin s m k) e = cc

pub returns-then-is_nan : goal.returns-then-is_nan
returns-then-is_nan c = nan_is_level c.args.x (sym c.if-is_nan.ensures.value)
