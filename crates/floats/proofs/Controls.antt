-- The definitions give the answers of geographiclib-rs's own code at a few numbers, by computation: roots, and remainders at ties, at a negative multiple and where nothing is finite.
use Rattle.std.proofs.Common.{◌≡◌, ℕ, T, refl}
use lib.Ieee.{binary64, neg, sub, rem, lt, le, eq, round, of_bits, root_twice, root_below}
use lib.Ieee.Positive.{positive}
use Rattle.std.specs.Float.{float_is_finite, is_sign_negative, float_with_sign, sqrt}
use Rattle.floats.specs.Arithmetic.{bits}
use Rattle.floats.specs.Remainders.{rest_by90, quotient_by90}

-- what the root of b's float is, and what the remainder and quotient by 90 are
abbrev Root : ℕ → ℕ → Type 0
Root b r = sqrt binary64 (bits b) ≡ bits r

abbrev Remquo : ℕ → ℕ → ℕ → Type 0
Remquo b r q = (rest_by90 (bits b) ≡ bits r) × (quotient_by90 (bits b) ≡ q)

-- 2, the smallest number, the largest, -0 and -1
root-two : Root 0x4000000000000000 0x3ff6a09e667f3bcd
unfolding sqrt of_bits round root_twice root_below
root-two = refl

root_smallest : Root 0x0000000000000001 0x1e60000000000000
unfolding sqrt of_bits round root_twice root_below
root_smallest = refl

root_largest : Root 0x7fefffffffffffff 0x5fefffffffffffff
unfolding sqrt of_bits round root_twice root_below
root_largest = refl

root-minus-zero : Root 0x8000000000000000 0x8000000000000000
unfolding sqrt of_bits round root_twice root_below
root-minus-zero = refl

root_negative : Root 0xbff0000000000000 0x7ff8000000000000
unfolding sqrt of_bits round root_twice root_below
root_negative = refl

-- the law of roots speaks of the smallest number
smallest_positive : T (positive (bits 1))
unfolding of_bits
smallest_positive = tt

-- -45 and 135 lie as near to two multiples; -4500 is -50 times 90; -90; infinity
tie_below : Remquo 0xc046800000000000 0xc046800000000000 0
unfolding rest_by90 quotient_by90 of_bits neg sub rem lt le eq float_is_finite is_sign_negative float_with_sign
tie_below = (refl, refl)

tie_above : Remquo 0x4060e00000000000 0xc046800000000000 2
unfolding rest_by90 quotient_by90 of_bits neg sub rem lt le eq float_is_finite is_sign_negative float_with_sign
tie_above = (refl, refl)

whole-turns : Remquo 0xc0b1940000000000 0x8000000000000000 2
unfolding rest_by90 quotient_by90 of_bits neg sub rem lt le eq float_is_finite is_sign_negative float_with_sign
whole-turns = (refl, refl)

quarter_back : Remquo 0xc056800000000000 0x8000000000000000 3
unfolding rest_by90 quotient_by90 of_bits neg sub rem lt le eq float_is_finite is_sign_negative float_with_sign
quarter_back = (refl, refl)

not_finite : Remquo 0x7ff0000000000000 0x7ff8000000000000 0
unfolding rest_by90 quotient_by90 of_bits neg sub rem lt le eq float_is_finite is_sign_negative float_with_sign
not_finite = (refl, refl)
