-- What Annex F of the C standard says of atan2 at zeros and infinities. Here s is the sign of y, true for minus. Assumes nothing.
use Rattle.std.specs.Prelude.{◌≡◌, Bool, true, false, T, pos, Float}
use Rattle.std.specs.Float.Ieee.{lt}
use Rattle.std.specs.Float.{float_is_finite, float_with_sign, inf, fin}
use Rattle.functions.specs.Coefficients.{π}
use Rattle.functions.specs.Arcs.{quarter_turn, eighth_turn, three_eighths}

abbrev pub zero_of : Bool → Float
zero_of s = fin s 0 (pos 0)

pub record AnnexF (f : Float → Float → Float) : Type 0 where
  pub zero_at_minus_zero : (s : Bool) → f (zero_of s) (zero_of true) ≡ float_with_sign s π
  pub zero_at_plus_zero : (s : Bool) → f (zero_of s) (zero_of false) ≡ zero_of s
  pub zero_behind : (s : Bool) (x : Float) → T (lt x (zero_of false)) → f (zero_of s) x ≡ float_with_sign s π
  pub zero_ahead : (s : Bool) (x : Float) → T (lt (zero_of false) x) → f (zero_of s) x ≡ zero_of s
  pub upright : (s t : Bool) (y : Float) → T (lt (zero_of false) y) → f (float_with_sign s y) (zero_of t) ≡ float_with_sign s quarter_turn
  pub far_behind : (s : Bool) (y : Float) → T (float_is_finite y) → T (lt (zero_of false) y) → f (float_with_sign s y) (inf true) ≡ float_with_sign s π
  pub far_ahead : (s : Bool) (y : Float) → T (float_is_finite y) → T (lt (zero_of false) y) → f (float_with_sign s y) (inf false) ≡ zero_of s
  pub far_up : (s : Bool) (x : Float) → T (float_is_finite x) → f (inf s) x ≡ float_with_sign s quarter_turn
  pub diagonal_behind : (s : Bool) → f (inf s) (inf true) ≡ float_with_sign s three_eighths
  pub diagonal_ahead : (s : Bool) → f (inf s) (inf false) ≡ float_with_sign s eighth_turn
