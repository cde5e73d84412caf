-- The remainder and the quotient by 90 degrees: what they are by the operations of binary64, and what it is to be a remainder nearest to zero. Assumes nothing.
use Rattle.std.specs.Prelude.{◌≡◌, ℕ, ◌-◌, ◌*◌, ◌%◌, ◌≤◌, false, cond, T, ℤ, pos, ◌+ℤ◌, ◌*ℤ◌, unsigned_abs, Float}
use Rattle.std.specs.Float.Ieee.{neg}
use Rattle.std.specs.Float.{float_is_finite, is_sign_negative, float_with_sign, Format}
use Rattle.std.specs.Int.{int_rem_euclid}
use Rattle.exact.specs.Values.{value}
use Rattle.floats.specs.Arithmetic.{◌⊖◌, ◌⊛◌, ◌≺◌, ◌≼◌, ◌≗◌, bits}

abbrev pub zero : Float
zero = bits 0

abbrev not_a_number : Float
not_a_number = bits 0x7ff8000000000000

abbrev pub ninety : Float
ninety = bits 0x4056800000000000

abbrev full_turn : Float
full_turn = bits 0x4076800000000000

-- ---- an angle z from 0 to 360: less the multiple of 90 that is nearest, and at 45, 135, 225 and 315 the even multiple; and which multiple that is, modulo 4

abbrev pub folded_rest : Float → Float
folded_rest z =
    cond (z ≼ bits 0x4046800000000000) z
    (cond (z ≺ bits 0x4060e00000000000) (z ⊖ ninety)
    (cond (z ≼ bits 0x406c200000000000) (z ⊖ bits 0x4066800000000000)
    (cond (z ≺ bits 0x4073b00000000000) (z ⊖ bits 0x4070e00000000000)
    (z ⊖ full_turn))))

abbrev pub folded_quotient : Float → ℕ
folded_quotient z =
    cond (z ≼ bits 0x4046800000000000) 0
    (cond (z ≺ bits 0x4060e00000000000) 1
    (cond (z ≼ bits 0x406c200000000000) 2
    (cond (z ≺ bits 0x4073b00000000000) 3
    0)))

-- ---- any float: the size is folded, and the sign put back

-- the size of x, less whole turns
abbrev pub turned : Float → Float
turned x = float_with_sign false x ⊛ full_turn

-- r, or where it is a zero the zero with the sign of x
abbrev pub zero_signed : Float → Float → Float
zero_signed x r = cond (r ≗ zero) (float_with_sign (is_sign_negative x) zero) r

unfoldable pub rest_by90 : Float → Float
rest_by90 x = cond (float_is_finite x) (cond (is_sign_negative x) (zero_signed x (neg (folded_rest (turned x)))) (zero_signed x (folded_rest (turned x)))) not_a_number

unfoldable pub quotient_by90 : Float → ℕ
quotient_by90 x = cond (float_is_finite x) (cond (is_sign_negative x) ((4 - folded_quotient (turned x)) % 4) (folded_quotient (turned x))) 0

-- ---- what that comes to, in exact values: x is a whole number of times y, and r. r is at most half of y, and just half only beside an even number; q is the number modulo 4
pub record NearestRemainder (f : Format) (x y r : Float) (q : ℕ) : Type 0 where
  pub times : ℤ
  pub rest_finite : T (float_is_finite r)
  pub exact : value f x ≡ times *ℤ value f y +ℤ value f r
  pub half : 2 * unsigned_abs (value f r) ≤ unsigned_abs (value f y)
  pub tie_even : 2 * unsigned_abs (value f r) ≡ unsigned_abs (value f y) → unsigned_abs times % 2 ≡ 0
  pub modulo : int_rem_euclid times (pos 4) ≡ pos q
  pub signed_zero : value f r ≡ pos 0 → r ≡ float_with_sign (is_sign_negative x) zero
