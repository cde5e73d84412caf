-- Bit patterns as text: sixteen hexadecimal digits, the most significant first. A NaN has the one pattern 7ff8000000000000. Assumes nothing.
use Rattle.std.specs.Prelude.{ℕ, zero, suc, ◌/◌, ◌%◌, Bool, true, cond, ◌&&◌, List, [], ◌∷◌, ◌++◌, length, Some, None, Option, ◌==◌, from_bits, nat_lt, to_bits, Float}
use Rattle.std.specs.Float.{binary64}
use Rattle.std.specs.Str.Parse.{digits_value}
use Rattle.std.specs.Char.{digit_char, digit_value}

-- the last k hexadecimal digits of n, in the characters 0 to 9 and a to f
unfoldable pub hex_digits : ℕ → ℕ → List ℕ
hex_digits zero n = []
hex_digits (suc k) n = hex_digits k (n / 16) ++ (digit_char (n % 16) ∷ [])

abbrev pub pattern_digits : Float → List ℕ
pattern_digits x = hex_digits 16 (to_bits binary64 x)

-- each character is a hexadecimal digit, in either case
abbrev pub hexadecimal : List ℕ → Bool
hexadecimal [] = true
hexadecimal (c ∷ cs) = nat_lt (digit_value c) 16 && hexadecimal cs

-- the float of the pattern that sixteen hexadecimal digits write; no other text writes one
unfoldable pub pattern_of : List ℕ → Option Float
pattern_of text = cond (length text == 16 && hexadecimal text) (Some (from_bits binary64 (digits_value 16 text))) None
