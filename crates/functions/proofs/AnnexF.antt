-- The angle of a point is what Annex F of the C standard says at zeros and infinities: each row is one case of the definition.
use Rattle.std.proofs.Common.{◌≡◌, ℕ, ◌*◌, ◌<◌, Bool, true, false, cond, ◌&&◌, ◌||◌, T, eqb, ltb, ℤ, refl, ap, zero-mul, arith, ltb→lt, ne_eqb}
use mathlib.Core.Bool.{beq}
use lib.Ieee.{Float, nan, inf, fin, up, down, lt, eq, is_nan, of_bits}
use Rattle.std.specs.Float.{float_is_finite, float_is_infinite, is_sign_negative, float_with_sign}
use Rattle.floats.specs.Arithmetic.{bits}
use Rattle.functions.specs.Coefficients.{π}
use Rattle.functions.specs.Arcs.{angle_of, quarter_turn}
use Rattle.functions.specs.AnnexF.{AnnexF, zero_of}

-- ---- tests on the size of a number above zero

not_below_zero : (a d : ℕ) → T (ltb a (0 * d)) → ⊥
not_below_zero a d h = go a (0 * d) (zero-mul d) (ltb→lt a (0 * d) h)
  where
    go : (a z : ℕ) → z ≡ 0 → a < z → ⊥
    go a z e h = omega arith

apart_from_zero : (a d : ℕ) → T (ltb (0 * d) a) → eqb a (0 * d) ≡ false
apart_from_zero a d h = ne_eqb a (0 * d) (go a (0 * d) (ltb→lt (0 * d) a h))
  where
    go : (a z : ℕ) → z < a → a ≡ z → ⊥
    go a z h e = omega arith

same_either_way : {A : Type 0} (t : Bool) (a : A) → cond t a a ≡ a
same_either_way true a = refl
same_either_way false a = refl

-- ---- the rows

zero_behind : (s : Bool) (x : Float) → T (lt x (zero_of false)) → angle_of (zero_of s) x ≡ float_with_sign s π
unfolding lt eq is_nan is_sign_negative float_with_sign of_bits
zero_behind s nan h = absurd h
zero_behind true (inf true) h = refl
zero_behind false (inf true) h = refl
zero_behind s (inf false) h = absurd h
zero_behind true (fin true m e) h = refl
zero_behind false (fin true m e) h = refl
zero_behind s (fin false m e) h = absurd (not_below_zero (m * up e * 1) (down e) h)

zero_ahead : (s : Bool) (x : Float) → T (lt (zero_of false) x) → angle_of (zero_of s) x ≡ zero_of s
unfolding lt eq is_nan is_sign_negative float_with_sign of_bits
zero_ahead s nan h = absurd h
zero_ahead s (inf true) h = absurd h
zero_ahead true (inf false) h = refl
zero_ahead false (inf false) h = refl
zero_ahead s (fin true m e) h = absurd h
zero_ahead true (fin false m e) h = refl
zero_ahead false (fin false m e) h = refl

-- where y is finite and above zero, the tests go past the row of a zero y
past_zero : {A : Type 0} (s : Bool) (m : ℕ) (e : ℤ) (a b : A) → T (lt (zero_of false) (fin false m e)) → cond (eq (fin s m e) (bits 0)) a b ≡ b
unfolding lt eq of_bits
past_zero s m e a b h =
    ap (λ (t : Bool). cond (t && (beq s false || eqb (m * up e * 1) 0)) a b) (apart_from_zero (m * up e * 1) (down e) h)

upright : (s t : Bool) (y : Float) → T (lt (zero_of false) y) → angle_of (float_with_sign s y) (zero_of t) ≡ float_with_sign s quarter_turn
unfolding lt eq is_nan is_sign_negative float_with_sign of_bits
upright s t nan h = absurd h
upright s t (inf true) h = absurd h
upright s true (inf false) h = refl
upright s false (inf false) h = refl
upright s t (fin true m e) h = absurd h
upright s true (fin false m e) h = ap (float_with_sign s) (past_zero s m e π quarter_turn h)
upright s false (fin false m e) h = ap (float_with_sign s) (past_zero s m e (bits 0) quarter_turn h)

far_behind : (s : Bool) (y : Float) → T (float_is_finite y) → T (lt (zero_of false) y) → angle_of (float_with_sign s y) (inf true) ≡ float_with_sign s π
unfolding lt eq is_nan float_is_infinite is_sign_negative float_is_finite float_with_sign of_bits
far_behind s nan f h = absurd f
far_behind s (inf t) f h = absurd f
far_behind s (fin true m e) f h = absurd h
far_behind s (fin false m e) f h = ap (float_with_sign s) (past_zero s m e π π h)

far_ahead : (s : Bool) (y : Float) → T (float_is_finite y) → T (lt (zero_of false) y) → angle_of (float_with_sign s y) (inf false) ≡ zero_of s
unfolding lt eq is_nan float_is_infinite is_sign_negative float_is_finite float_with_sign of_bits
far_ahead s nan f h = absurd f
far_ahead s (inf t) f h = absurd f
far_ahead s (fin true m e) f h = absurd h
far_ahead s (fin false m e) f h = ap (float_with_sign s) (past_zero s m e (bits 0) (bits 0) h)

far_up : (s : Bool) (x : Float) → T (float_is_finite x) → angle_of (inf s) x ≡ float_with_sign s quarter_turn
unfolding eq is_nan float_is_infinite is_sign_negative float_is_finite of_bits
far_up s nan f = absurd f
far_up s (inf t) f = absurd f
far_up s (fin t m e) f = ap (float_with_sign s) (same_either_way (eq (fin t m e) (bits 0)) quarter_turn)

pub angle_by_standard : AnnexF angle_of
unfolding lt eq is_nan float_is_infinite is_sign_negative float_with_sign of_bits
angle_by_standard = record {
  zero_at_minus_zero = λ s. elim s as (λ t. angle_of (zero_of t) (zero_of true) ≡ float_with_sign t π) [ true ↦ refl | false ↦ refl ];
  zero_at_plus_zero = λ s. elim s as (λ t. angle_of (zero_of t) (zero_of false) ≡ zero_of t) [ true ↦ refl | false ↦ refl ];
  zero_behind = zero_behind;
  zero_ahead = zero_ahead;
  upright = upright;
  far_behind = far_behind;
  far_ahead = far_ahead;
  far_up = far_up;
  diagonal_behind = λ s. refl;
  diagonal_ahead = λ s. refl;
}
