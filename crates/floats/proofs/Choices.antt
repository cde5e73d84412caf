-- A NaN has the sign plus.
use Rattle.std.proofs.Common.{◌≡◌, true, false, sym, refl, true≢false}
use lib.Ieee.{Float, nan, inf, fin, is_nan}
use Rattle.std.specs.Float.{is_sign_negative}

pub nan_not_negative : (y : Float) → is_nan y ≡ true → is_sign_negative y ≡ false
unfolding is_nan is_sign_negative
nan_not_negative nan h = refl
nan_not_negative (inf s) h = absurd (true≢false (sym h))
nan_not_negative (fin s m e) h = absurd (true≢false (sym h))
