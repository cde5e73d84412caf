-- The root of a normal double by its pattern: guessed in float arithmetic, and accepted by a test on squares of whole numbers. Assumes nothing.
use Rattle.std.specs.Prelude.{ℕ, ◌+◌, ◌-◌, ◌*◌, ◌/◌, ◌%◌, ◌^◌, ◌<◌, ◌≤◌, Bool, ◌&&◌, [], ◌∷◌, Option, nat_le, nat_lt, to_bits, Float}
use Rattle.std.specs.List.{find}
use Rattle.std.specs.Float.{binary64}
use Rattle.floats.specs.Arithmetic.{◌⊕◌, ◌⊖◌, ◌⊗◌, bits}

-- b is the pattern of a double above zero whose exponent field is neither the lowest nor the highest
abbrev pub Normal : ℕ → Type 0
Normal b = (2 ^ 52 ≤ b) × (b < 2047 * 2 ^ 52)

-- the digits of such a double, doubled where its exponent is odd: the double is this number times an even power of two
abbrev pub even_digits : ℕ → ℕ
even_digits b = (b % 2 ^ 52 + 2 ^ 52) * (2 - b / 2 ^ 52 % 2)

-- r is the root of n, rounded to a whole number: (r - 1/2) ^ 2 < n < (r + 1/2) ^ 2
abbrev pub is_rounded_root : ℕ → ℕ → Bool
is_rounded_root n r = nat_lt (r * r) (n + r) && nat_le n (r * r + r)

-- the guess g, the number after it or the one before it, whichever is the rounded root of n
abbrev pub accepted_root : ℕ → ℕ → Option ℕ
accepted_root n g = find (is_rounded_root n) (g ∷ (g + 1) ∷ (g - 1) ∷ [])

-- the pattern of the root of b's double, where r has its digits: the exponent is half of b's
abbrev pub root_pattern : ℕ → ℕ → ℕ
root_pattern b r = (b / 2 ^ 52 + 1021) / 2 * 2 ^ 52 + r

-- ---- the guess, on which nothing rests but the time that a root takes
abbrev half : Float
half = bits 0x3fe0000000000000

abbrev one_and_half : Float
one_and_half = bits 0x3ff8000000000000

-- Newton's rule for 1 / root(2 h)
unfoldable pub closer_inverse : Float → Float → Float
closer_inverse h y = one_and_half ⊗ y ⊖ h ⊗ y ⊗ (y ⊗ y)

-- from y, near to 1 / root(a), to the root
unfoldable pub root_by_inverse : Float → Float → Float
root_by_inverse a y = a ⊗ y ⊕ half ⊗ y ⊗ (a ⊖ a ⊗ y ⊗ (a ⊗ y))

-- Half the pattern p, taken from a constant, is the pattern of a number near to the inverse root of p's; three steps make it nearer.
unfoldable pub guessed_root : ℕ → Float
guessed_root p =
    let a = bits p in
    let h = half ⊗ a in
    root_by_inverse a (closer_inverse h (closer_inverse h (closer_inverse h (bits (0x5fe6eb50c7b537a9 - p / 2)))))

-- the pattern of the double that has b's digits and lies from 1 up to 4, an even power of two away
abbrev pub pattern_near_one : ℕ → ℕ
pattern_near_one b = (1024 - b / 2 ^ 52 % 2) * 2 ^ 52 + b % 2 ^ 52

abbrev pub guessed_digits : ℕ → ℕ
guessed_digits b = to_bits binary64 (guessed_root (pattern_near_one b)) % 2 ^ 52 + 2 ^ 52
