-- The size of a finite number is finite and not negative.
use Rattle.std.proofs.Common.{◌≡◌, false, sym, refl, ap, ◌∙◌}
use lib.Ieee.{Float, nan, inf, fin}
use Rattle.std.specs.Float.{float_is_finite, is_sign_negative, float_with_sign}
use Rattle.functions.proofs.cube_root.cube_root.Goals as goal

size_finite : (x : Float) → float_is_finite (float_with_sign false x) ≡ float_is_finite x
unfolding float_is_finite float_with_sign
size_finite nan = refl
size_finite (inf s) = refl
size_finite (fin s m e) = refl

size-plus : (x : Float) → is_sign_negative (float_with_sign false x) ≡ false
unfolding is_sign_negative float_with_sign
size-plus nan = refl
size-plus (inf s) = refl
size-plus (fin s m e) = refl

pub root_of_size-requires : goal.root_of_size-requires
root_of_size-requires c = record {
  finite = ap float_is_finite c.abs.ensures.value ∙ size_finite c.args.x ∙ sym c.if-not-is_finite.ensures.value;
  plus = ap is_sign_negative c.abs.ensures.value ∙ size-plus c.args.x;
}
